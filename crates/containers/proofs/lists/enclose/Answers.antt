-- `enclose`: the row over what is held. Assumes nothing.
use Rattle.containers.proofs.Closing.{laid_closed}
use Rattle.containers.proofs.lists.enclose.Goals as goal

pub returns-clause-meets : goal.returns-clause-meets
returns-clause-meets c =
    λ o before h. laid_closed _ _ _ _ o _ _ _ _ _ before _ _ h (rw (← c.container_kind.ensures, ← c.opening_mark.ensures) c.put.ensures)
