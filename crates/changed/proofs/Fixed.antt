-- Two messages of one length with the same bytes from one place to another. Assumes nothing.
use Prim.Native.Nat.{ℕ, suc, ◌+◌, ◌≤◌, ◌<◌}
use mathlib.Core.Path.{◌≡◌, refl, ap}
use mathlib.Core.Bool.{Bool, true, false}
use mathlib.Core.List.{List, [], ◌∷◌}
use native.Mathlib.Omega.{arith}
use lib.ListN.{length, get_or, drop, length-take, length-drop}
use lib.Seq.{get_or-take, get_or-drop, ext_get_or}
use lib.Dec.{eqb}
use Rattle.format.specs.Conditions.{when◌then◌else◌}
use Rattle.format.specs.Marks.{'N'}
use Rattle.format.specs.Bytes.{leading_noops, bytes, skip}

-- as many `N`, if they and the byte after them are the same
noops_same : (l l' : List ℕ) → length l' ≡ length l → ((i : ℕ) → i ≤ leading_noops l → get_or l' i 0 ≡ get_or l i 0) → leading_noops l' ≡ leading_noops l
unfolding leading_noops when◌then◌else◌
noops_same [] [] e h = refl
noops_same [] (b' ∷ l') e h = absurd (omega arith)
noops_same (b ∷ l) [] e h = absurd (omega arith)
noops_same (b ∷ l) (b' ∷ l') e h = let z : b' ≡ b = h 0 (omega arith) in rw z (go (eqb b 'N') (noops_same l l' (omega arith)) h)
  where
    go : (t : Bool) → (((i : ℕ) → i ≤ leading_noops l → get_or l' i 0 ≡ get_or l i 0) → leading_noops l' ≡ leading_noops l)
        → ((i : ℕ) → i ≤ (when t then suc (leading_noops l) else 0) → get_or (b' ∷ l') i 0 ≡ get_or (b ∷ l) i 0)
        → (when t then suc (leading_noops l') else 0) ≡ (when t then suc (leading_noops l) else 0)
    go true rest h = ap suc (rest λ i k. h (suc i) (omega arith))
    go false rest h = refl

-- the same bytes from one place to another
abbrev pub Fixed : List ℕ → List ℕ → ℕ → ℕ → Type 0
Fixed m m' from end = (i : ℕ) → from ≤ i → i < end → get_or m' i 0 ≡ get_or m i 0

module _ (m m' : List ℕ) (long : length m' ≡ length m) where
  -- so these bytes are the same
  pub bytes_fixed : (at n : ℕ) → Fixed m m' at (at + n) → bytes m' at n ≡ bytes m at n
  unfolding bytes
  bytes_fixed at n h = ext_get_or 0 _ _ (simp (length-take, length-drop, long)) λ i q.
      let p : i < n = omega (arith, simp (length-take, length-drop) at q) in
      rw (get_or-take n (drop at m'), get_or-take n (drop at m), get_or-drop at m', get_or-drop at m) (h (at + i) (omega arith) (omega arith))

  -- and `N` are skipped to the same place, if they and the byte after them are the same
  pub skip_fixed : (at : ℕ) → Fixed m m' at (skip m at + 1) → skip m' at ≡ skip m at
  unfolding skip
  skip_fixed at h = ap (λ (n : ℕ). at + n) (noops_same (drop at m) (drop at m') (simp (length-drop, long)) λ i k.
      rw (get_or-drop at m', get_or-drop at m) (h (at + i) (omega arith) (omega arith)))
