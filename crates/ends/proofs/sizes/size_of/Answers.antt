-- `size_of`: by the mark's traits. Assumes nothing.
use mathlib.Core.Path.{◌∙◌, sym, ap}
use native.Mathlib.Omega.{arith}
use borrow.Author.Tests.{not-false}
use Rattle.format.specs.Traits.{traits_of}
use Rattle.format.proofs.MarkFacts.{width_few}
use Rattle.ends.proofs.sizes.size_of.Goals as goal

pub overflow_add-result : goal.overflow_add-result
unfolding traits_of
overflow_add-result c =
    let e = ap (λ t. t.width) c.traits-traits.ensures in omega (arith, e, width_few c.args.mark)

pub returns : goal.returns
unfolding traits_of
returns c =
    λ h. let e = c.traits-traits.ensures in
    (sym (ap (λ t. t.scalar) e) ∙ not-false _ c.if-not-traits.false, c.if-mark-eq-CHAR.false, omega (arith, ap (λ t. t.width) e))
