-- Numbers read from their highest byte down, and their sign. Assumes nothing.
use Prim.Native.Nat.{ℕ, zero, suc, ◌+◌, ◌-◌, ◌*◌, ◌^◌, ◌≤◌, ◌<◌}
use mathlib.Core.Path.{◌≡◌, refl, sym, ◌∙◌}
use mathlib.Core.Bool.{Bool, true, false, and-false}
use mathlib.Core.List.{List}
use mathlib.Core.Logic.{◌↔◌}
use native.Mathlib.Omega.{arith}
use native.Mathlib.Nat.{pow-le-pow_right, lt_of_lt_of_le}
use lib.ListN.{length, get_or}
use lib.Dec.{leb}
use borrow.Author.Tests.{leb-true, le-leb, lt-leb}
use Rattle.format.specs.Conditions.{when◌then◌else◌}
use Rattle.format.specs.Marks.{is_signed, width}
use Rattle.format.specs.Bytes as Bytes
use Rattle.format.specs.Bytes.{little, bytes}
use Rattle.format.specs.Integers.{is_negative}
use Rattle.format.proofs.MarkFacts.{integer_wide, signed_integer}
use Rattle.format.proofs.Little.{Small, little_front, little_bound, little_sign}
use Rattle.scan.specs.Numbers.{little_at}

module _ (m : List ℕ) (at : ℕ) where
  -- nothing is read yet
  pub none_read : (w : ℕ) → 0 ≡ little (bytes m (at + (w - 0)) 0)
  unfolding little bytes
  none_read w = refl

  -- one byte further down
  pub one_lower : (k w : ℕ) → k < w → at + w ≤ length m
      → little (bytes m (at + (w - k)) k) * 256 + get_or m (at + (w - 1 - k)) 0 ≡ little (bytes m (at + (w - (k + 1))) (k + 1))
  one_lower k w h e =
      let p : k + 1 ≡ suc k = omega arith in
      let q : at + (w - suc k) + 1 ≡ at + (w - k) = omega arith in
      let r : at + (w - 1 - k) ≡ at + (w - (k + 1)) = omega arith in
      let i : at + (w - suc k) < length m = omega arith in
      rw (r, p, little_front m (at + (w - suc k)) k i, q) (omega arith)

  -- all are read
  pub all_read : (k w : ℕ) → k ≤ w → w ≤ k → little (bytes m (at + (w - k)) k) ≡ little (bytes m at w)
  all_read k w h g = let e : k ≡ w = omega arith in let z : at + (w - w) ≡ at = omega arith in rw (e, z)

  -- up to eight bytes fit 64 bits
  pub fits_64 : (w : ℕ) → Small m → w ≤ 8 → little (bytes m at w) < 2 ^ 64
  fits_64 w s h = lt_of_lt_of_le (little_bound m at w s) (pow-le-pow_right {n = 256} (omega arith) h)

  -- ---- the cases of `little_at`

  pub too_wide : (w : ℕ) → 8 < w → 0 ≡ little_at m at w
  unfolding little_at when◌then◌else◌
  too_wide w h = rw (lt-leb w 8 h)

  pub not_there : (w : ℕ) → length m < at + w → 0 ≡ little_at m at w
  unfolding little_at Bytes.within when◌then◌else◌
  not_there w h = rw (lt-leb (at + w) (length m) h, and-false)

  pub all_there : (w : ℕ) → w ≤ 8 → at + w ≤ length m → little (bytes m at w) ≡ little_at m at w
  unfolding little_at Bytes.within when◌then◌else◌
  all_there w h k = rw (le-leb w 8 h, le-leb (at + w) (length m) k)

-- ---- the sign

-- two comparisons that say the same answer the same
pub leb_same : (a b c d : ℕ) → (a ≤ b) ↔ (c ≤ d) → leb a b ≡ leb c d
leb_same a b c d e = go (leb a b) (leb c d) refl refl
  where
    go : (x y : Bool) → leb a b ≡ x → leb c d ≡ y → leb a b ≡ leb c d
    go true y p q = p ∙ sym (le-leb c d (e.0 (leb-true a b p)))
    go false true p q = le-leb a b (e.1 (leb-true c d q)) ∙ sym q
    go false false p q = p ∙ sym q

pub unsigned : (mark n : ℕ) → is_signed mark ≡ false → false ≡ is_negative mark n
unfolding is_negative
unsigned mark n e = rw e

by_width : (m : List ℕ) (start w : ℕ) → Small m → 0 < w → start + w ≤ length m
    → (128 ≤ get_or m (start + (w - 1)) 0) ↔ (256 ^ w ≤ 2 * little (bytes m start w))
by_width m start zero s p h = absurd (omega arith)
by_width m start (suc n) s p h = let e : suc n - 1 ≡ n = omega arith in rw e (little_sign m start n s (omega arith))

pub signed : (m : List ℕ) (mark start : ℕ) → Small m → is_signed mark ≡ true → start + width mark ≤ length m
    → leb 128 (get_or m (start + (width mark - 1)) 0) ≡ is_negative mark (little (bytes m start (width mark)))
unfolding is_negative
signed m mark start s e h =
    rw e (leb_same 128 _ _ _ (by_width m start (width mark) s (integer_wide mark (signed_integer mark e)) h))
