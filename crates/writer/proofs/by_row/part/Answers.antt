-- `part`: as much of the rest as is there. Assumes nothing.
use Rattle.writer.proofs.Parts.{part_there}
use Rattle.writer.proofs.by_row.part.Goals as goal

pub returns : goal.returns
returns c =
    part_there _ _ _ _ _ c.min.ensures c.min-2.ensures
