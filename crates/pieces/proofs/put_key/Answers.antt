-- `put_key`: the length, and then the bytes. Assumes nothing.
use native.Mathlib.Omega.{arith}
use Rattle.pieces.proofs.Putting.{puts_append, integer_few}
use Rattle.pieces.proofs.put_key.Goals as goal

pub put_part-requires : goal.put_part-requires
put_part-requires c =
    omega (arith, c.put_integer-next.ensures.reach, integer_few c.args.n, c.requires)

pub returns : goal.returns
returns c =
    puts_append _ _ c.put_integer-next.ensures c.put_part.ensures
