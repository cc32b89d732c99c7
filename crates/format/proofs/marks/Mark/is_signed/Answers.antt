-- `Mark::is_signed`: a field of the traits. Assumes nothing.
use mathlib.Core.Path.{ap}
use Rattle.format.specs.Traits.{traits_of}
use Rattle.format.proofs.marks.Mark.is_signed.Goals as goal

pub returns : goal.returns
unfolding traits_of
returns c =
    ap (λ t. t.signed) c.traits.ensures
