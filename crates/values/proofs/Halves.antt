-- The single that means the same as a half: by the half's fields, and by masks and shifts. Assumes nothing.
use Prim.Native.Nat.{ℕ, zero, suc, ◌+◌, ◌-◌, ◌*◌, ◌/◌, ◌%◌, ◌^◌, ◌≤◌, ◌<◌}
use mathlib.Core.Path.{◌≡◌, refl, sym, ap, ap₂, ◌∙◌}
use mathlib.Core.Bool.{false, cond, not, ◌&&◌}
use native.Mathlib.Omega.{arith}
use native.Mathlib.Nat.{mul_assoc, mul_comm, mul_right_comm, mul-le-mul_left, mul-lt-mul_of_pos_left, pow-suc, lt_of_not-le, pow-le-pow_right}
use lib.Dec.{eqb}
use lib.Pow.{pow-add}
use lib.Count.{count_leading_zeros}
use Rattle.std.proofs.lemmas.Nat.{leading_top, pow_pos}
use lib.Bits.{bit_and, bit_or, and_mask, and_high, or_shifted}
use lib.Ieee.{odd, binary32, to_bits}
use lib.Ieee.Exact.{odd_sign}
use borrow.Author.Tests.{ne_eqb}
use Rattle.format.specs.Conditions.{when◌then◌else◌}
use Rattle.format.specs.Half.{sign_field, exponent_field, fraction_field, is_half_nan, half_value, single}
use Rattle.values.proofs.SingleBits.{single_of, sign_bit}

-- ---- by the fields

-- the sign's bit of a single
sign_weight : (s : ℕ) → s < 2 → cond (eqb s 1) (2 ^ 31) 0 ≡ s * 2 ^ 31
sign_weight zero h = refl
sign_weight (suc zero) h = refl
sign_weight (suc (suc s)) h = absurd (omega arith)

-- what `single` is, by sign, exponent and fraction
by_fields : ℕ → ℕ → ℕ → ℕ
by_fields s e f =
    when eqb e 31 && not (eqb f 0) then s * 2 ^ 31 + 255 * 2 ^ 23 + f * 2 ^ 13 else
    to_bits binary32 (half_value (eqb s 1) e f)

module _ (s f : ℕ) (bit : s < 2) where
  -- infinities and NaNs
  at_ones : s * 2 ^ 31 + 255 * 2 ^ 23 + f * 2 ^ 13 ≡ by_fields s 31 f
  unfolding by_fields half_value to_bits when◌then◌else◌
  at_ones = go f
    where
      go : (f : ℕ) → s * 2 ^ 31 + 255 * 2 ^ 23 + f * 2 ^ 13 ≡ by_fields s 31 f
      go zero = omega (arith, sign_weight s bit)
      go (suc f) = rw (ne_eqb (suc f) 0 (λ e. omega arith))

  -- subnormals
  at_zero : s * 2 ^ 31 + to_bits binary32 (half_value false 0 f) ≡ by_fields s 0 f
  unfolding by_fields half_value when◌then◌else◌
  at_zero = rw (sign_bit binary32 11 (eqb s 1) f 0 24, sign_weight s bit)

  -- the rest
  at_other : (e : ℕ) → 0 < e → e < 31 → f < 2 ^ 10 → s * 2 ^ 31 + (e + 112) * 2 ^ 23 + f * 2 ^ 13 ≡ by_fields s e f
  unfolding by_fields half_value when◌then◌else◌
  at_other zero low high few = absurd (omega arith)
  at_other (suc e) low high few =
      rw (ne_eqb (suc e) 31 (λ q. omega arith), single_of (odd 11 (eqb s 1) (2 ^ 10 + f) e 24) (eqb s 1) ((2 ^ 10 + f) * 2 ^ e) ((2 ^ 10 + f) * 2 ^ 13) (e + 112) (odd_sign 11 (eqb s 1) (2 ^ 10 + f) e 24) moved (omega arith) (omega arith), sign_weight s bit)
      (omega arith)
    where
      moved : (2 ^ 10 + f) * 2 ^ 13 * 2 ^ (e + 112) ≡ (2 ^ 10 + f) * 2 ^ e * 2 ^ 125
      moved = rw (pow-add 2 e 112) (sym (mul_assoc ((2 ^ 10 + f) * 2 ^ 13) (2 ^ e) (2 ^ 112)) ∙ ap (λ x. x * 2 ^ 112) (mul_right_comm (2 ^ 10 + f) (2 ^ 13) (2 ^ e)) ∙ mul_assoc ((2 ^ 10 + f) * 2 ^ e) (2 ^ 13) (2 ^ 112))

-- ---- by masks and shifts

-- a sign, an exponent and a fraction that do not overlap, put together
join : (s e f : ℕ) → e < 256 → f < 2 ^ 23 → bit_or (bit_or (s * 2 ^ 31) (e * 2 ^ 23)) f ≡ s * 2 ^ 31 + e * 2 ^ 23 + f
join s e f he hf =
    ap (λ x. bit_or x f) (or_shifted s 31 (e * 2 ^ 23) (omega arith) ∙ beside)
    ∙ or_shifted (s * 256 + e) 23 f hf
    ∙ ap (λ x. x + f) (sym beside)
  where
    beside : s * 2 ^ 31 + e * 2 ^ 23 ≡ (s * 256 + e) * 2 ^ 23
    beside = omega arith

module _ (h : ℕ) (half : h < 2 ^ 16) where
  sign_is : (bit_and h (2 ^ 15) * 2 ^ 16) % 2 ^ 32 ≡ h / 2 ^ 15 * 2 ^ 31
  sign_is = ap (λ x. (x * 2 ^ 16) % 2 ^ 32) (and_high h 1 15) ∙ omega arith

  pub exponent_is : bit_and (h / 2 ^ 10) 31 ≡ h / 2 ^ 10 % 2 ^ 5
  exponent_is = and_mask (h / 2 ^ 10) 5

  pub fraction_is : bit_and h 1023 ≡ h % 2 ^ 10
  fraction_is = and_mask h 10

  moved_is : (bit_and h 1023 * 2 ^ 13) % 2 ^ 32 ≡ h % 2 ^ 10 * 2 ^ 13
  moved_is = ap (λ x. (x * 2 ^ 13) % 2 ^ 32) fraction_is ∙ omega arith

  -- the bits of a half are its three fields
  fields : (e : ℕ) → h / 2 ^ 10 % 2 ^ 5 ≡ e → by_fields (h / 2 ^ 15) e (h % 2 ^ 10) ≡ single h
  unfolding single by_fields is_half_nan sign_field exponent_field fraction_field
  fields e is = rw (← is)

  bit : h / 2 ^ 15 < 2
  bit = omega arith

  pub ones : bit_and (h / 2 ^ 10) 31 ≡ 31
      → bit_or (bit_or ((bit_and h (2 ^ 15) * 2 ^ 16) % 2 ^ 32) (255 * 2 ^ 23)) ((bit_and h 1023 * 2 ^ 13) % 2 ^ 32) ≡ single h
  ones e =
      ap₂ (λ x y. bit_or (bit_or x (255 * 2 ^ 23)) y) sign_is moved_is
      ∙ join (h / 2 ^ 15) 255 (h % 2 ^ 10 * 2 ^ 13) (omega arith) (omega arith)
      ∙ at_ones (h / 2 ^ 15) (h % 2 ^ 10) bit
      ∙ fields 31 (sym exponent_is ∙ e)

  pub none : bit_and (h / 2 ^ 10) 31 ≡ 0 → (r : ℕ) → r ≡ to_bits binary32 (half_value false 0 (bit_and h 1023)) → r < 2 ^ 31
      → bit_or ((bit_and h (2 ^ 15) * 2 ^ 16) % 2 ^ 32) r ≡ single h
  none e r is small =
      ap (λ x. bit_or x r) sign_is
      ∙ or_shifted (h / 2 ^ 15) 31 r small
      ∙ ap (λ x. h / 2 ^ 15 * 2 ^ 31 + x) (is ∙ ap (λ x. to_bits binary32 (half_value false 0 x)) fraction_is)
      ∙ at_zero (h / 2 ^ 15) (h % 2 ^ 10) bit
      ∙ fields 0 (sym exponent_is ∙ e)

  pub some : (bit_and (h / 2 ^ 10) 31 ≡ 31 → ⊥) → (bit_and (h / 2 ^ 10) 31 ≡ 0 → ⊥)
      → bit_or (bit_or ((bit_and h (2 ^ 15) * 2 ^ 16) % 2 ^ 32) (((bit_and (h / 2 ^ 10) 31 + 112) * 2 ^ 23) % 2 ^ 32)) ((bit_and h 1023 * 2 ^ 13) % 2 ^ 32) ≡ single h
  some not-ones not-zero =
      ap₂ (λ x y. bit_or (bit_or x (((bit_and (h / 2 ^ 10) 31 + 112) * 2 ^ 23) % 2 ^ 32)) y) sign_is moved_is
      ∙ ap (λ x. bit_or (bit_or (h / 2 ^ 15 * 2 ^ 31) x) (h % 2 ^ 10 * 2 ^ 13)) exponent_moved
      ∙ join (h / 2 ^ 15) (h / 2 ^ 10 % 2 ^ 5 + 112) (h % 2 ^ 10 * 2 ^ 13) (omega arith) (omega arith)
      ∙ at_other (h / 2 ^ 15) (h % 2 ^ 10) bit (h / 2 ^ 10 % 2 ^ 5) (lt_of_not-le (λ l. not-zero (exponent_is ∙ omega arith))) (lt_of_not-le (λ l. not-ones (exponent_is ∙ omega arith))) (omega arith)
      ∙ fields (h / 2 ^ 10 % 2 ^ 5) refl
    where
      exponent_moved : ((bit_and (h / 2 ^ 10) 31 + 112) * 2 ^ 23) % 2 ^ 32 ≡ (h / 2 ^ 10 % 2 ^ 5 + 112) * 2 ^ 23
      exponent_moved = ap (λ x. ((x + 112) * 2 ^ 23) % 2 ^ 32) exponent_is ∙ omega arith

-- ---- subnormals: the digits move up, and the exponent falls

-- the digits with their exponent are the fraction with 113, a one in front of ten digits
record Moved (fraction digits exponent : ℕ) : Type 0 where
  full : 2 ^ 10 ≤ digits
  few : digits < 2 ^ 11
  low : exponent ≤ 113
  over : 0 < exponent
  is : digits * 2 ^ exponent ≡ fraction * 2 ^ 113

module _ (r d e : ℕ) (m : Moved r d e) where
  -- the digit in front is left out, and the others stand behind the exponent
  code : bit_or ((e * 2 ^ 23) % 2 ^ 32) ((bit_and d 1023 * 2 ^ 13) % 2 ^ 32) ≡ e * 2 ^ 23 + d % 1024 * 2 ^ 13
  code = ap₂ bit_or first second ∙ or_shifted e 23 (d % 1024 * 2 ^ 13) (omega arith)
    where
      first : (e * 2 ^ 23) % 2 ^ 32 ≡ e * 2 ^ 23
      first = omega (arith, m.low)

      second : (bit_and d 1023 * 2 ^ 13) % 2 ^ 32 ≡ d % 1024 * 2 ^ 13
      second = ap (λ x. (x * 2 ^ 13) % 2 ^ 32) (and_mask d 10) ∙ omega arith

  small : bit_or ((e * 2 ^ 23) % 2 ^ 32) ((bit_and d 1023 * 2 ^ 13) % 2 ^ 32) < 2 ^ 31
  small = rw code (omega (arith, m.low))

  ended : bit_or ((e * 2 ^ 23) % 2 ^ 32) ((bit_and d 1023 * 2 ^ 13) % 2 ^ 32) ≡ to_bits binary32 (half_value false 0 r)
  unfolding half_value
  ended =
      code
      ∙ sym
      (single_of (odd 11 false r 0 24) false (r * 2 ^ 0) (d * 2 ^ 13) (e - 1) (odd_sign 11 false r 0 24) moved (omega (arith, m.full)) (omega (arith, m.few))
      ∙ omega (arith, m.full, m.over, m.few))
    where
      moved : d * 2 ^ 13 * 2 ^ (e - 1) ≡ r * 2 ^ 0 * 2 ^ 125
      moved = go e m.over m.is
        where
          go : (e : ℕ) → 0 < e → d * 2 ^ e ≡ r * 2 ^ 113 → d * 2 ^ 13 * 2 ^ (e - 1) ≡ r * 2 ^ 0 * 2 ^ 125
          go zero p is = absurd (omega arith)
          go (suc e) p is =
              let q : suc e - 1 ≡ e = omega arith in
              let i : d * (2 ^ e * 2) ≡ r * 2 ^ 113 = rw (pow-suc 2 e) at is in
              rw q (omega (arith, mul_right_comm d (2 ^ 13) (2 ^ e), mul_assoc d (2 ^ e) 2))

-- a fraction moved up by as many places as ten lack to the digits below its first one
raised : (r s j p : ℕ) → s + j ≡ 10 → 2 ^ j ≤ r → r < 2 ^ suc j → p ≡ r * 2 ^ s → Moved r (p % 2 ^ 32) (113 - s)
raised r s j p e low high is =
    let t : 2 ^ s * 2 ^ j ≡ 2 ^ 10 = sym (pow-add 2 s j) ∙ ap (λ x. 2 ^ x) e in
    let k : s + suc j ≡ 11 = omega arith in
    let u : 2 ^ s * 2 ^ suc j ≡ 2 ^ 11 = sym (pow-add 2 s (suc j)) ∙ ap (λ x. 2 ^ x) k in
    let n : s + (113 - s) ≡ 113 = omega arith in
    let c : p ≡ 2 ^ s * r = is ∙ mul_comm r (2 ^ s) in
    let full : 2 ^ 10 ≤ p = rw (c, ← t) (mul-le-mul_left (2 ^ s) low) in
    let few : p < 2 ^ 11 = rw (c, ← u) (mul-lt-mul_of_pos_left high (pow_pos s)) in
    let whole : p % 2 ^ 32 ≡ p = omega (arith, few) in
    record {
      full = rw whole full;
      few = rw whole few;
      low = omega arith;
      over = omega arith;
      is = ap (λ x. x * 2 ^ (113 - s)) (whole ∙ is) ∙ mul_assoc r (2 ^ s) (2 ^ (113 - s)) ∙ ap (λ x. r * x) (sym (pow-add 2 s (113 - s)) ∙ ap (λ x. 2 ^ x) n);
    }

-- a fraction, and how many zeros stand in front of it in 32 digits
module _ (r z : ℕ) (some : 0 < r) (short : r < 2 ^ 10) (zeros : z ≡ count_leading_zeros 32 r) where
  -- its first digit
  first_digit : (j : ℕ) × (z + suc j ≡ 32) × (2 ^ j ≤ r) × (r < 2 ^ suc j)
  first_digit = rw zeros (leading_top 32 r some (omega arith))

  few_below : first_digit.0 < 10
  few_below = lt_of_not-le (λ l. let p : 2 ^ 10 ≤ 2 ^ first_digit.0 = pow-le-pow_right {n = 2} (omega arith) l in omega (arith, first_digit.2))

  pub many_zeros : 21 ≤ z
  many_zeros = omega (arith, first_digit.1, few_below)

  moved : Moved r ((r * 2 ^ (z - 21)) % 2 ^ 32) (113 - (z - 21))
  moved = raised r (z - 21) first_digit.0 (r * 2 ^ (z - 21)) (omega (arith, first_digit.1, few_below)) first_digit.2 first_digit.3 refl

  pub subnormal_small : bit_or (((113 - (z - 21)) * 2 ^ 23) % 2 ^ 32) ((bit_and ((r * 2 ^ (z - 21)) % 2 ^ 32) 1023 * 2 ^ 13) % 2 ^ 32) < 2 ^ 31
  subnormal_small = small r _ _ moved

  pub subnormal_is : bit_or (((113 - (z - 21)) * 2 ^ 23) % 2 ^ 32) ((bit_and ((r * 2 ^ (z - 21)) % 2 ^ 32) 1023 * 2 ^ 13) % 2 ^ 32) ≡ to_bits binary32 (half_value false 0 r)
  subnormal_is = ended r _ _ moved
