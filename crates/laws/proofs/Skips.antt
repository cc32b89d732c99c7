-- Skipping `N`: it goes on, it stays inside the message, and a second time it does nothing. Assumes nothing.
use Prim.Native.Nat.{ℕ, suc, ◌≤◌}
use mathlib.Core.Path.{◌≡◌, refl}
use mathlib.Core.Bool.{Bool, true, false}
use mathlib.Core.List.{List, [], ◌∷◌}
use native.Mathlib.Omega.{arith}
use lib.ListN.{length, drop, length-drop}
use lib.Seq.{drop-drop}
use lib.Dec.{eqb}
use Rattle.format.specs.Conditions.{when◌then◌else◌}
use Rattle.format.specs.Marks.{'N'}
use Rattle.format.specs.Bytes.{leading_noops, skip}

noops_few : (l : List ℕ) → leading_noops l ≤ length l
unfolding leading_noops when◌then◌else◌
noops_few [] = omega arith
noops_few (b ∷ l) = go (eqb b 'N') (noops_few l)
  where
    go : (t : Bool) → leading_noops l ≤ length l → (when t then suc (leading_noops l) else 0) ≤ suc (length l)
    go true h = omega arith
    go false h = omega arith

noops_gone : (l : List ℕ) → leading_noops (drop (leading_noops l) l) ≡ 0
unfolding leading_noops when◌then◌else◌
noops_gone [] = refl
noops_gone (b ∷ l) = go (eqb b 'N') refl (noops_gone l)
  where
    go : (t : Bool) → eqb b 'N' ≡ t → leading_noops (drop (leading_noops l) l) ≡ 0 → leading_noops (drop (when t then suc (leading_noops l) else 0) (b ∷ l)) ≡ 0
    go true e h = h
    go false e h = rw e

module _ (m : List ℕ) (at : ℕ) where
  pub skip_on : at ≤ skip m at
  unfolding skip
  skip_on = omega arith

  pub skip_inside : at ≤ length m → skip m at ≤ length m
  unfolding skip
  skip_inside h = let n = noops_few (drop at m) in omega (arith, length-drop at m)

  pub skip_again : skip m (skip m at) ≡ skip m at
  unfolding skip
  skip_again = rw (← drop-drop (leading_noops (drop at m)) at m, noops_gone (drop at m)) (omega arith)
