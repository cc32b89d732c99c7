-- Half to single: `h` becomes a single with exactly the same meaning, and a NaN keeps its sign, its fraction moving up 13 bits.
use Rattle.std.specs.Prelude.{ℕ, zero, suc, ◌+◌, ◌*◌, ◌/◌, ◌%◌, ◌^◌, Bool, not, ◌&&◌, eqb, Float}
use Rattle.std.specs.Float.{inf, binary32}
use Rattle.std.specs.Float.Ieee.{odd, to_bits}
use Rattle.format.specs.Conditions.{when◌then◌else◌}

-- a half's fields: sign, exponent and fraction
unfoldable pub sign_field : ℕ → ℕ
sign_field h = h / 2 ^ 15

unfoldable pub exponent_field : ℕ → ℕ
exponent_field h = h / 2 ^ 10 % 2 ^ 5

unfoldable pub fraction_field : ℕ → ℕ
fraction_field h = h % 2 ^ 10

-- the exponent of infinities and NaNs
abbrev pub all_ones : ℕ
all_ones = 31

unfoldable pub is_half_nan : ℕ → Bool
is_half_nan h = eqb (exponent_field h) all_ones && not (eqb (fraction_field h) 0)

-- the value of a half that is no NaN, by its sign, exponent and fraction: with exponent 0 the fraction times 2 ^ -24; else the
-- fraction with a one in front of its ten digits, times 2 ^ (exponent - 1 - 24)
unfoldable pub half_value : Bool → ℕ → ℕ → Float
half_value negative zero fraction = odd 11 negative fraction 0 24
half_value negative (suc e) fraction = when eqb (suc e) all_ones then inf negative else odd 11 negative (2 ^ 10 + fraction) e 24

-- the bits of the single
unfoldable pub single : ℕ → ℕ
single h =
    when is_half_nan h then sign_field h * 2 ^ 31 + 255 * 2 ^ 23 + fraction_field h * 2 ^ 13 else
    to_bits binary32 (half_value (eqb (sign_field h) 1) (exponent_field h) (fraction_field h))
