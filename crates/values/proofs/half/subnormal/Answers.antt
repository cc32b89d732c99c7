-- `subnormal`: the digits move up at once by the places that are missing. Assumes nothing.
use mathlib.Core.Path.{refl}
use native.Mathlib.Omega.{arith}
use lib.Ieee.{odd, to_bits}
use Rattle.format.specs.Half.{half_value}
use Rattle.values.proofs.Halves.{many_zeros, subnormal_is}
use Rattle.values.proofs.half.subnormal.Goals as goal

pub returns-then-fraction-eq0-clause-is : goal.returns-then-fraction-eq0-clause-is
unfolding half_value odd to_bits
returns-then-fraction-eq0-clause-is c =
    rw c.if-fraction-eq0.true refl

pub overflow_sub-places : goal.overflow_sub-places
overflow_sub-places c =
    many_zeros c.args.fraction _ (omega arith) c.requires refl

pub returns-clause-is : goal.returns-clause-is
returns-clause-is c =
    subnormal_is c.args.fraction _ (omega arith) c.requires refl
