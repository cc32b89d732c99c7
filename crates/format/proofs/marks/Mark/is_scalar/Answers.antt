-- `Mark::is_scalar`: a field of the traits. Assumes nothing.
use mathlib.Core.Path.{ap}
use Rattle.format.specs.Traits.{traits_of}
use Rattle.format.proofs.marks.Mark.is_scalar.Goals as goal

pub returns : goal.returns
unfolding traits_of
returns c =
    ap (λ t. t.scalar) c.traits.ensures
