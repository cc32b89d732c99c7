-- Two's complement: the weight of the sign's bit, and what the code computes on either side of it. Assumes nothing.
use Prim.Native.Nat.{ℕ, zero, suc, ◌-◌, ◌*◌, ◌%◌, ◌^◌, ◌≤◌, ◌<◌}
use mathlib.Core.Path.{◌≡◌, refl, sym, ap, subst, ◌∙◌}
use mathlib.Core.Bool.{true}
use native.Mathlib.Omega.{arith}
use native.Mathlib.Nat.{zero-add, one-mul, pow-suc, pow-succ', pow-le-pow_right}
use lib.Pow.{pow-add, pow_pos, shl_exact}
use lib.IntN.{pos, negsuc, ◌-ℤ◌}
use mir.Syntax.{w64}
use mir.Val.{SFits, to_z, of_z}
use mir.Facts.{to_z-of_z, to_z_pos}
use borrow.Author.Tests.{le-leb, lt-leb}
use Rattle.format.specs.Conditions.{when◌then◌else◌}
use Rattle.format.specs.Marks.{is_signed, width}
use Rattle.format.specs.Integers.{is_negative}
use Rattle.format.specs.Values.{twos_complement}
use Rattle.format.proofs.MarkFacts.{integer_wide, signed_integer, width_few}

-- bytes in bits
bits : (w : ℕ) → 256 ^ w ≡ 2 ^ (8 * w)
bits zero = refl
bits (suc w) = pow-suc 256 w ∙ ap (λ x. x * 256) (bits w) ∙ sym (pow-add 2 (8 * w) 8) ∙ ap (λ k. 2 ^ k) (omega arith)

-- the weight of the highest bit of up to eight bytes, as the code makes it
pub record Weight (w half : ℕ) : Type 0 where
  pub bytes_some : 0 < w
  pub bytes_few : w ≤ 8
  pub some : 0 < half
  pub twice : 2 * half ≡ 256 ^ w
  pub high : half ≤ 2 ^ 63

weight : (w : ℕ) → 0 < w → w ≤ 8 → Weight w ((1 * 2 ^ (8 * w - 1)) % 2 ^ 64)
weight w some few = record { bytes_some = some; bytes_few = few; some = rw whole (pow_pos (8 * w - 1)); twice = double; high = omega (arith, double, pow-le-pow_right {n = 256} (omega arith) few) }
  where
    whole : (1 * 2 ^ (8 * w - 1)) % 2 ^ 64 ≡ 2 ^ (8 * w - 1)
    whole = shl_exact {a = 1} 1 (8 * w - 1) 64 (omega arith) (omega arith) ∙ one-mul (2 ^ (8 * w - 1))

    double : 2 * ((1 * 2 ^ (8 * w - 1)) % 2 ^ 64) ≡ 256 ^ w
    double = ap (λ x. 2 * x) whole ∙ sym (pow-succ' 2 (8 * w - 1)) ∙ ap (λ k. 2 ^ k) (omega arith) ∙ sym (bits w)

-- -1 - k
module _ (k : ℕ) (h : k < 2 ^ 63) where
  minus_one : (k : ℕ) → negsuc 0 -ℤ pos k ≡ negsuc k
  minus_one zero = refl
  minus_one (suc k) = ap (λ n. negsuc (suc n)) (zero-add k)

  below : negsuc 0 -ℤ to_z w64 k ≡ negsuc k
  below = ap (λ z. negsuc 0 -ℤ z) (to_z_pos w64 h) ∙ minus_one k

  pub below_fits : SFits w64 (negsuc 0 -ℤ to_z w64 k)
  below_fits = subst (SFits w64) (sym below) (record { sfits = h })

  pub below_is : to_z w64 (of_z w64 (negsuc 0 -ℤ to_z w64 k)) ≡ negsuc k
  below_is = ap (λ z. to_z w64 (of_z w64 z)) below ∙ to_z-of_z {w = w64} (record { sfits = h })

-- the weight under a signed mark
pub signed_weight : (mark w : ℕ) → is_signed mark ≡ true → w ≡ width mark → Weight w ((1 * 2 ^ (8 * w - 1)) % 2 ^ 64)
signed_weight mark w signed is = weight w (rw is (integer_wide mark (signed_integer mark signed))) (rw is (width_few mark))

-- what is taken from -1 fits 63 bits
pub lower : (n w half : ℕ) → Weight w half → (half - 1) - (n - half) < 2 ^ 63
lower n w half k = omega arith

module _ (mark n w half : ℕ) (signed : is_signed mark ≡ true) (is : w ≡ width mark) (k : Weight w half) where
  bound : 2 * half ≡ 256 ^ width mark
  bound = k.twice ∙ ap (λ x. 256 ^ x) is

  pub positive : n < half → pos n ≡ twos_complement mark n
  unfolding twos_complement is_negative when◌then◌else◌
  positive h = rw (signed, lt-leb (256 ^ width mark) (2 * n) (omega (arith, bound)))

  pub negative : half ≤ n → negsuc ((half - 1) - (n - half)) ≡ twos_complement mark n
  unfolding twos_complement is_negative when◌then◌else◌
  negative h = rw (signed, le-leb (256 ^ width mark) (2 * n) (omega (arith, bound))) (ap negsuc (omega (arith, bound)))
