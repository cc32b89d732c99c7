-- Which kinds are the same: keys, schemas and fixed arrays are no leaves. Assumes nothing.
use Prim.Native.Nat.{ℕ}
use mathlib.Core.Path.{◌≡◌, refl, ap}
use mathlib.Core.Bool.{Bool, true, false}
use mathlib.Core.Logic.{◌⊎◌, inl, inr}
use native.Mathlib.Omega.{arith}
use lib.Dec.{eqb}
use borrow.Author.Tests.{eqb-true, eqb-false}
use Rattle.format.specs.Marks.{Opening, bracket, brace}
use Rattle.format.specs.Tokens.{Kind, kind_number, key, leaf}
use Rattle.format.proofs.KindNumbers.{same_number}
use Rattle.laws.proofs.Schemas.{group_kind}

-- keys, schemas and fixed arrays are no leaves
pub key_no_leaf : {k : Kind} → k ≡ key → k ≡ leaf → ⊥
key_no_leaf e q = let z : ◌≡◌ {A = ℕ} 0 1 = cc in omega arith

pub group_no_leaf : (o : Opening) {k : Kind} → k ≡ group_kind o → k ≡ leaf → ⊥
group_no_leaf bracket e q = let z : ◌≡◌ {A = ℕ} 0 1 = cc in omega arith
group_no_leaf brace e q = let z : ◌≡◌ {A = ℕ} 0 1 = cc in omega arith

-- a kind is another or not
pub kind_case : (k l : Kind) → (k ≡ l) ⊎ (k ≡ l → ⊥)
kind_case k l = go (eqb (kind_number k) (kind_number l)) refl
  where
    go : (b : Bool) → eqb (kind_number k) (kind_number l) ≡ b → (k ≡ l) ⊎ (k ≡ l → ⊥)
    go true e = inl (same_number k l (eqb-true (kind_number k) (kind_number l) e))
    go false e = inr (λ q. eqb-false (kind_number k) (kind_number l) e (ap (λ x. kind_number x) q))
