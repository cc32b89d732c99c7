-- `Mark::is_integer`: a field of the traits. Assumes nothing.
use mathlib.Core.Path.{ap}
use Rattle.format.specs.Traits.{traits_of}
use Rattle.format.proofs.marks.Mark.is_integer.Goals as goal

pub returns : goal.returns
unfolding traits_of
returns c =
    ap (λ t. t.integer) c.traits.ensures
