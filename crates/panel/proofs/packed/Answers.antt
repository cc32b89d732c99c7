-- `packed`: the parts can be taken out again. Assumes nothing.
use Rattle.panel.proofs.Parts.{parts_laid}
use Rattle.panel.proofs.packed.Goals as goal

pub returns : goal.returns
returns c =
    parts_laid _ _ c.args.amount c.requires.0 c.requires.1
