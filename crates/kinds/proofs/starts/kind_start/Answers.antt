-- `kind_start`: by the class of the mark. Assumes nothing.
use Rattle.kinds.proofs.Cases.{kind_early}
use Rattle.kinds.proofs.starts.kind_start.Goals as goal

pub returns-then-end-at-clause-meets : goal.returns-then-end-at-clause-meets
returns-then-end-at-clause-meets c =
    kind_early _ _ _ _ _ c.if-end-at.true
