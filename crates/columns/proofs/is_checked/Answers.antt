-- `is_checked`: by the mark. Assumes nothing.
use Rattle.columns.proofs.Down.{unchecked}
use Rattle.columns.proofs.is_checked.Goals as goal

pub returns-in_default : goal.returns-in_default
returns-in_default c =
    λ e h bs. let n = c.in_default.in_default-own.rest in unchecked _ n.0.0.1 n.0.1 n.1 h bs
