-- `store_row`: by the content. Assumes nothing.
use Rattle.tokens.proofs.Laying.{laid_under}
use Rattle.typed.proofs.packed.store_row.Goals as goal

pub returns-in-None-clause-meets : goal.returns-in-None-clause-meets
returns-in-None-clause-meets c =
    let e = c.in-None.is in (λ before under h q. rw e (laid_under _ under _ _ _ _ before _ _ h q c.put.ensures))
