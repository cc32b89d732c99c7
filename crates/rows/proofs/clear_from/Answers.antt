-- `clear_from`: the part from there on is cleared. Assumes nothing.
use Rattle.rows.proofs.Clearing.{cleared_past, cleared_part}
use Rattle.rows.proofs.clear_from.Goals as goal

pub returns-then-lent-from : goal.returns-then-lent-from
returns-then-lent-from g c =
    cleared_past g.T.Zero.ZERO _ _ c.if-lent-from.true

pub returns : goal.returns
returns g c =
    cleared_part g.T.Zero.ZERO _ _ _ c.if-lent-from.false c.clear.ensures
