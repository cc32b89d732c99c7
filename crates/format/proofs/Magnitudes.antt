-- The magnitude of a signed number, as the code computes it: of a negative one it is one more than -1 less the number. Assumes nothing.
use Prim.Native.Nat.{ℕ, suc, ◌+◌, ◌<◌, ◌^◌}
use mathlib.Core.Path.{◌≡◌, sym, ap, subst, ◌∙◌}
use mathlib.Core.Bool.{true, false, false≢true}
use native.Mathlib.Omega.{arith}
use borrow.Author.Tests.{ltb-true, le-ltb}
use lib.Dec.{T}
use lib.IntN.{ℤ, pos, negsuc, nat_abs, ◌-ℤ◌}
use lib.Signed.{lt_z, non_neg}
use mir.Syntax.{w64}
use mir.Val.{Fits, SFits, to_z, of_z}
use mir.Facts.{to_z-of_z}

-- -1 less the number is a natural one
record Below (z : ℤ) : Type 0 where
  pub rest : ℕ
  pub is : negsuc 0 -ℤ z ≡ pos rest
  pub few : rest < 2 ^ 63

minus : (n : ℕ) → negsuc 0 -ℤ negsuc n ≡ pos n
minus n = rw (le-ltb (suc n) 1 (omega arith)) (ap pos (omega arith))

-- so of a negative number
below : (z : ℤ) → SFits w64 z → lt_z z (pos 0) ≡ true → Below z
below (pos n) f t = absurd (omega (arith, ltb-true n 0 t))
below (negsuc n) f t = record { rest = n; is = minus n; few = f.sfits }

-- any other is its magnitude
at_least : (z : ℤ) → SFits w64 z → lt_z z (pos 0) ≡ false → T (non_neg z) × Fits w64 (nat_abs z)
at_least (pos n) f t = (tt, record { fits = omega (arith, f.sfits) })
at_least (negsuc n) f t = absurd (false≢true (sym t))

-- the same of a number as its bits are read back
module _ (z : ℤ) (f : SFits w64 z) where
  -- it still fits
  back : SFits w64 (to_z w64 (of_z w64 z))
  back = subst (SFits w64) (sym (to_z-of_z f)) f

  -- what is not negative can be cast
  pub plain : lt_z (to_z w64 (of_z w64 z)) (pos 0) ≡ false → T (non_neg (to_z w64 (of_z w64 z))) × Fits w64 (nat_abs (to_z w64 (of_z w64 z)))
  plain = at_least (to_z w64 (of_z w64 z)) back

  module _ (negative : lt_z (to_z w64 (of_z w64 z)) (pos 0) ≡ true) where
    -- what is left below -1
    k : Below (to_z w64 (of_z w64 z))
    k = below (to_z w64 (of_z w64 z)) back negative

    -- the difference fits
    pub less_fits : SFits w64 (negsuc 0 -ℤ to_z w64 (of_z w64 z))
    less_fits = subst (SFits w64) (sym k.is) (record { sfits = k.few })

    -- it is read back as it was
    same : to_z w64 (of_z w64 (negsuc 0 -ℤ to_z w64 (of_z w64 z))) ≡ pos k.rest
    same = to_z-of_z less_fits ∙ k.is

    -- it can be cast
    pub less_casts : T (non_neg (to_z w64 (of_z w64 (negsuc 0 -ℤ to_z w64 (of_z w64 z))))) × Fits w64 (nat_abs (to_z w64 (of_z w64 (negsuc 0 -ℤ to_z w64 (of_z w64 z)))))
    less_casts = subst (λ (y : ℤ). T (non_neg y) × Fits w64 (nat_abs y)) (sym same) (tt, record { fits = omega (arith, k.few) })

    -- one more fits
    pub more_fits : Fits w64 (nat_abs (to_z w64 (of_z w64 (negsuc 0 -ℤ to_z w64 (of_z w64 z)))) + 1)
    more_fits = subst (λ (y : ℤ). Fits w64 (nat_abs y + 1)) (sym same) (record { fits = omega (arith, k.few) })

-- what is left below -1, as it is read back
pub left_below : (n : ℕ) → SFits w64 (negsuc n) → nat_abs (to_z w64 (of_z w64 (negsuc 0 -ℤ to_z w64 (of_z w64 (negsuc n))))) ≡ n
left_below n f =
    let r : SFits w64 (pos n) = record { sfits = f.sfits } in
    ap (λ (y : ℤ). nat_abs (to_z w64 (of_z w64 (negsuc 0 -ℤ y)))) (to_z-of_z f) ∙ ap (λ (y : ℤ). nat_abs (to_z w64 (of_z w64 y))) (minus n) ∙ ap nat_abs (to_z-of_z r)
