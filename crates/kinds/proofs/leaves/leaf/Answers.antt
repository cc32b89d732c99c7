-- `leaf`: its row is stored with its offset. Assumes nothing.
use Rattle.kinds.proofs.Placing.{read_leaf}
use Rattle.kinds.proofs.leaves.leaf.Goals as goal

pub returns-clause-meets : goal.returns-clause-meets
returns-clause-meets c =
    let w = c.offset_after-end.ensures in read_leaf _ _ _ _ _ _ _ _ _ _ w c.put_alone.ensures
