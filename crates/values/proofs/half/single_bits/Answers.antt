-- `single_bits`: infinities and NaNs, subnormals, the rest. Assumes nothing.
use native.Mathlib.Omega.{arith}
use Rattle.values.proofs.Halves.{ones, none, some}
use Rattle.values.proofs.half.single_bits.Goals as goal

pub returns-then-exponent-eq31 : goal.returns-then-exponent-eq31
returns-then-exponent-eq31 c =
    ones c.args.half (omega arith) c.if-exponent-eq31.true

pub returns-then-exponent-eq0 : goal.returns-then-exponent-eq0
returns-then-exponent-eq0 c =
    none c.args.half (omega arith) c.if-exponent-eq0.true c.subnormal.result c.subnormal.ensures.is c.subnormal.ensures.unsigned

pub returns : goal.returns
returns c =
    some c.args.half (omega arith) c.if-exponent-eq31.false c.if-exponent-eq0.false
