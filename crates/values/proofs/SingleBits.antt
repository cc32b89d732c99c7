-- The bits of a single, by its value. Assumes nothing.
use Prim.Native.Nat.{ℕ, zero, suc, ◌+◌, ◌-◌, ◌*◌, ◌/◌, ◌^◌, ◌≤◌, ◌<◌}
use mathlib.Core.Path.{◌≡◌, sym, ap, ◌∙◌}
use mathlib.Core.Bool.{Bool, false, cond}
use native.Mathlib.Omega.{arith}
use native.Mathlib.Nat.{mul_assoc, mul_right_comm, mul-div_cancel, mul-le-mul_right, le_antisymm, lt_of_le_of_lt, lt_of_lt_of_le, lt_irrefl, lt_of_not-le}
use lib.Pow.{pow-add, pow_pos, pow_mono, shl_lt}
use lib.Ieee.{Float, nan, inf, fin, up, down, size, odd, Format, binary32, top, to_bits}
use lib.Ieee.Digits.{size-lt, size-le}
use lib.Ieee.Exact.{HasValue}
use lib.Ieee.Fits.{down_pos}

-- a number of 24 digits, moved up by p places, has 24 + p
size_moved : (v p : ℕ) → 2 ^ 23 ≤ v → v < 2 ^ 24 → size (v * 2 ^ p) ≡ 24 + p
size_moved v p low high = le_antisymm (size-le (v * 2 ^ p) (24 + p) (shl_lt 24 p high)) (let h = lt_of_not-le over in omega arith)
  where
    least : 2 ^ (23 + p) ≤ v * 2 ^ p
    least = rw (pow-add 2 23 p) (mul-le-mul_right (2 ^ p) low)

    over : size (v * 2 ^ p) ≤ 23 + p → ⊥
    over h = lt_irrefl (2 ^ (23 + p)) (lt_of_le_of_lt least (lt_of_lt_of_le (size-lt (v * 2 ^ p)) (pow_mono h)))

-- a value of size a times 2 ^ -24, which is v times 2 ^ (p - 149): v's 24 digits, and p beside them
pub single_of : (x : Float) (s : Bool) (a v p : ℕ) → HasValue x s a (2 ^ 24) → v * 2 ^ p ≡ a * 2 ^ 125 → 2 ^ 23 ≤ v → v < 2 ^ 24
    → to_bits binary32 x ≡ cond s (2 ^ 31) 0 + (p * 2 ^ 23 + v)
unfolding to_bits
single_of nan s a v p h e low high = absurd h
single_of (inf t) s a v p h e low high = absurd h
single_of (fin t m e) s a v p h is low high =
    let units : m * up e * 2 ^ 149 / down e ≡ v * 2 ^ p = ap (λ x. x / down e) scaled ∙ mul-div_cancel (v * 2 ^ p) (down_pos e) in
    let places : size (v * 2 ^ p) - 24 ≡ p = omega (arith, size_moved v p low high) in
    rw (units, places, h.0, mul-div_cancel v (pow_pos p)) (omega arith)
  where
    scaled : m * up e * 2 ^ 149 ≡ v * 2 ^ p * down e
    scaled =
        sym (mul_assoc (m * up e) (2 ^ 24) (2 ^ 125))
        ∙ ap (λ x. x * 2 ^ 125) h.1
        ∙ mul_right_comm a (down e) (2 ^ 125)
        ∙ ap (λ x. x * down e) (sym is)

-- a sign adds its own bit
pub sign_bit : (f : Format) (d : ℕ) (s : Bool) (q k l : ℕ) → to_bits f (odd d s q k l) ≡ cond s (top f) 0 + to_bits f (odd d false q k l)
unfolding odd to_bits
sign_bit f d s zero k l = omega arith
sign_bit f d s (suc q) k l = omega arith
