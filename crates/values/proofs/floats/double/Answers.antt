-- `double`: by whether the bits are a NaN's. Assumes nothing.
use mathlib.Core.Path.{ap}
use native.Mathlib.Omega.{arith}
use lib.Ieee.{binary64}
use Rattle.format.specs.Values as Values
use Rattle.values.proofs.FloatBits.{is_nan_lem, readable, same_bits}
use Rattle.values.proofs.floats.double.Goals as goal

pub returns-then-bits-gt9218868437227405312-clause-apart : goal.returns-then-bits-gt9218868437227405312-clause-apart
returns-then-bits-gt9218868437227405312-clause-apart c =
    is_nan_lem binary64 _ c.if-bits-gt9218868437227405312.true

pub float_from_bits-result : goal.float_from_bits-result
float_from_bits-result c =
    readable binary64 _ c.if-bits-gt9218868437227405312.false

pub returns-clause-is : goal.returns-clause-is
returns-clause-is c =
    ap Values.double (same_bits binary64 c.args.bits c.if-bits-gt9218868437227405312.false (omega arith))
