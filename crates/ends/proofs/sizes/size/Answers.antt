-- `size`: the mark is a byte. Assumes nothing.
use native.Mathlib.Omega.{arith}
use Rattle.format.proofs.MarkFacts.{width_few}
use Rattle.ends.proofs.sizes.size.Goals as goal

pub overflow_add-result : goal.overflow_add-result
overflow_add-result c =
    omega (arith, c.width.ensures, width_few c.args.mark)
