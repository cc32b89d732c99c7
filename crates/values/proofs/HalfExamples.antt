-- Document 01's two halves, of the definition: 7E00 gives 7FC00000, 0001 gives 33800000. Assumes nothing.
use mathlib.Core.Path.{◌≡◌, refl}
use lib.Count.{count_trailing_zeros}
use lib.Ieee.{size, odd, to_bits}
use Rattle.format.specs.Conditions.{when◌then◌else◌}
use Rattle.format.specs.Half.{sign_field, exponent_field, fraction_field, is_half_nan, half_value, single}

pub half_examples : (single 0x7E00 ≡ 0x7FC00000) × (single 0x0001 ≡ 0x33800000)
unfolding single is_half_nan sign_field exponent_field fraction_field half_value when◌then◌else◌ count_trailing_zeros odd size to_bits
half_examples = (refl, refl)
