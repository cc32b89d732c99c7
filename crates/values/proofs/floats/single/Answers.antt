-- `single`: by whether the bits are a NaN's. Assumes nothing.
use mathlib.Core.Path.{ap}
use native.Mathlib.Omega.{arith}
use lib.Ieee.{binary32}
use Rattle.format.specs.Values as Values
use Rattle.values.proofs.FloatBits.{is_nan_lem, readable, same_bits}
use Rattle.values.proofs.floats.single.Goals as goal

pub returns-then-bits-gt2139095040-clause-apart : goal.returns-then-bits-gt2139095040-clause-apart
returns-then-bits-gt2139095040-clause-apart c =
    is_nan_lem binary32 _ c.if-bits-gt2139095040.true

pub float_from_bits-result : goal.float_from_bits-result
float_from_bits-result c =
    readable binary32 _ c.if-bits-gt2139095040.false

pub returns-clause-is : goal.returns-clause-is
returns-clause-is c =
    ap Values.single (same_bits binary32 c.args.bits c.if-bits-gt2139095040.false (omega arith))
