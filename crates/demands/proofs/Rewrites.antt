-- What rewriting an accepted message answers: its house form if that fits, and else 11. Assumes nothing.
use Prim.Native.Nat.{ℕ}
use mathlib.Core.Path.{◌≡◌, refl}
use mathlib.Core.Bool.{Bool, true, false, ◌&&◌}
use mathlib.Core.List.{List}
use mathlib.Core.Logic.{◌⊎◌, inl, inr}
use native.Mathlib.Omega.{arith}
use lib.ListN.{length}
use lib.Dec.{leb}
use borrow.Author.Tests.{leb-true, leb-false}
use Rattle.format.specs.Grammars.{Grammar}
use Rattle.format.specs.Outcome.{Outcome, fault, done, ◌>>=◌, ◌>>◌, guard}
use Rattle.format.specs.Limits.{limit}
use Rattle.format.specs.Refusals.{output_too_long}
use Rattle.format.specs.Tokens.{Forest}
use Rattle.format.specs.Read.{read_into}
use Rattle.format.specs.HouseForm.{house, rewrite}
use Rattle.demands.specs.Rewrites.{rewrite_into}
use Rattle.demands.specs.Demand2.{Fits}

-- what is answered for a house form, in an output
abbrev Settles : List ℕ → List ℕ → Outcome (List ℕ) → Type 0
Settles output h o = ((o ≡ done h) × Fits (length h) output) ⊎ ((o ≡ fault output_too_long 0) × (Fits (length h) output → ⊥))

settles : (output h : List ℕ) → Settles output h (guard (leb (length h) (length output) && leb (length h) limit) output_too_long 0 >> done h)
unfolding guard ◌>>◌
settles output h = go (leb (length h) (length output)) refl (leb (length h) limit) refl
  where
    go : (b : Bool) → leb (length h) (length output) ≡ b → (c : Bool) → leb (length h) limit ≡ c → Settles output h (guard (b && c) output_too_long 0 >> done h)
    go true p true q = inl (refl, (leb-true (length h) (length output) p, leb-true (length h) limit q))
    go true p false q = inr (refl, λ f. let l = leb-false (length h) limit q in omega (arith, f.1))
    go false p c q = inr (refl, λ f. let l = leb-false (length h) (length output) p in omega (arith, f.0))

module _ (m lent output : List ℕ) (grammar : Grammar) (f : Forest) (accepted : read_into m lent grammar ≡ done f) where
  -- It is rewritten and fits, or it is refused and doesn't.
  pub rewrite_settles : Settles output (house m f) (rewrite_into m lent output grammar)
  unfolding read_into rewrite ◌>>=◌
  rewrite_settles = rw accepted (settles output (house m f))

  -- So what was written is the house form.
  pub rewrite_form : (h : List ℕ) → rewrite_into m lent output grammar ≡ done h → (h ≡ house m f) × Fits (length (house m f)) output
  rewrite_form h e = elim rewrite_settles [
    | inl s ↦ (let x = s.0 in let q : h ≡ house m f = cc in (q, s.1))
    | inr s ↦ (let x = s.0 in let z : ◌≡◌ {A = ℕ} 0 1 = cc in absurd (omega arith))
  ]
