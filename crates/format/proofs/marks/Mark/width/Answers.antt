-- `Mark::width`: a field of the traits. Assumes nothing.
use mathlib.Core.Path.{ap}
use Rattle.format.specs.Traits.{traits_of}
use Rattle.format.proofs.marks.Mark.width.Goals as goal

pub returns : goal.returns
unfolding traits_of
returns c =
    ap (λ t. t.width) c.traits.ensures
