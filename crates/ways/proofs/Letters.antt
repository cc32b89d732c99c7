-- Two numbers are compared in either order. Assumes nothing.
use Prim.Native.Nat.{ℕ}
use mathlib.Core.Path.{◌≡◌, refl, sym, ◌∙◌}
use mathlib.Core.Bool.{Bool, true, false, ◌||◌, or-false, false≢true}
use mathlib.Core.List.{[], ◌∷◌}
use lib.Dec.{eqb}
use borrow.Author.Tests.{eq-eqb, eqb-true}
use Rattle.format.specs.Conditions.{among}

pub eqb_comm : (a b : ℕ) → eqb a b ≡ eqb b a
eqb_comm a b = go (eqb a b) (eqb b a) refl refl
  where
    go : (u v : Bool) → eqb a b ≡ u → eqb b a ≡ v → u ≡ v
    go true true p q = refl
    go true false p q = absurd (false≢true (sym q ∙ eq-eqb b a (sym (eqb-true a b p))))
    go false true p q = absurd (false≢true (sym p ∙ eq-eqb a b (sym (eqb-true b a q))))
    go false false p q = refl

-- one of two letters
pub either : (word a b : ℕ) → among (a ∷ b ∷ []) word ≡ (eqb a word || eqb b word)
unfolding among
either word a b = rw (eqb_comm word a, eqb_comm word b, or-false (eqb b word)) refl
