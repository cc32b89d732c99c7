-- `unmarked`: a byte must stand there, then the scalar. Assumes nothing.
use Rattle.tokens.proofs.Cases.{unmarked_early, unmarked_there}
use Rattle.tokens.proofs.scalars.unmarked.Goals as goal

pub returns-then-end-at-clause-meets : goal.returns-then-end-at-clause-meets
returns-then-end-at-clause-meets c =
    unmarked_early _ _ _ _ _ c.if-end-at.true

pub returns-clause-meets : goal.returns-clause-meets
returns-clause-meets c =
    rw (unmarked_there _ _ _ _ _ c.if-end-at.false) c.scalar.ensures.meets
