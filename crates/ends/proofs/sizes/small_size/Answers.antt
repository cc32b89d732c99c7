-- `small_size`: no mark has more than nine bytes. Assumes nothing.
use native.Mathlib.Omega.{arith}
use Rattle.format.proofs.MarkFacts.{width_few}
use Rattle.ends.proofs.sizes.small_size.Goals as goal

pub overflow_cast-result : goal.overflow_cast-result
overflow_cast-result c =
    omega (arith, c.size.ensures, width_few c.args.mark)
