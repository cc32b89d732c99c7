-- What is picked of a list: one of its members, and of numbered ones the one with that number; the tables and leaves of a message. Assumes nothing.
use Prim.Native.Nat.{ℕ, zero, suc, ◌+◌, ◌≤◌, ◌<◌}
use mathlib.Core.Path.{◌≡◌, refl, sym, subst}
use mathlib.Core.Bool.{Bool, true, false}
use mathlib.Core.List.Memᴰ
use mathlib.Core.List.{List, [], ◌∷◌, ◌++◌, Memᴰ}
use mathlib.Core.Logic.{inl, inr}
use native.Mathlib.Omega.{arith}
use lib.ListN.{length}
use borrow.Author.Tests.{eqb-true}
use Rattle.format.specs.Conditions.{when◌then◌else◌}
use Rattle.format.specs.Outcome.{fault, done}
use Rattle.format.specs.Refusals.{not_there}
use Rattle.format.specs.Tokens.{Token, table as kind_of_table, leaf as kind_of_leaf, kind_number, is_kind, Forest, none, node, size, below_first}
use Rattle.format.specs.Storage.{member_row}
use Rattle.format.specs.Panel.{Table, tables, leaf_rows, pick}
use Rattle.format.proofs.KindNumbers.{same_number}
use Rattle.laws.specs.Places.{At, here, under, later}
use Rattle.storage.specs.Places.{Field}
use Rattle.storage.proofs.Places.{at_field}
use Rattle.storage.proofs.Numbering.{Numbered, stop, step}
use Rattle.storage.proofs.Offsets.{Placed}
use Rattle.storage.proofs.Leaves.{of_leaves}

-- ---- lists

pub pick_member : {A : Type 0} (l : List A) (i : ℕ) {a : A} → pick l i ≡ done a → Memᴰ a l
unfolding pick
pick_member [] i e = let z : ◌≡◌ {A = ℕ} 0 1 = cc in absurd (omega arith)
pick_member (x ∷ l) zero {a} e = let q : a ≡ x = cc in Memᴰ.head q
pick_member (x ∷ l) (suc i) e = Memᴰ.tail (pick_member l i e)

pub pick_past : {A : Type 0} (l : List A) (i : ℕ) → length l ≤ i → pick l i ≡ fault not_there 0
unfolding pick
pick_past [] i h = refl
pick_past (x ∷ l) zero h = absurd (omega arith)
pick_past (x ∷ l) (suc i) h = pick_past l i (omega arith)

-- of numbered ones, the one with a number
pub record PickedAt {A : Type 0} (number : A → ℕ) (l : List A) (i n : ℕ) : Type 0 where
  pub one : A
  pub picked : pick l i ≡ done one
  pub numbered : number one ≡ n

pub pick_numbered : {A : Type 0} {number : A → ℕ} {end k : ℕ} {l : List A} → Numbered number end k l → (i : ℕ) → k + i < end → PickedAt number l i (k + i)
unfolding pick
pick_numbered (stop e) i h = absurd (omega arith)
pick_numbered (step {a = a} e r) zero h = record { one = a; picked = refl; numbered = omega arith }
pick_numbered (step e r) (suc i) h = let x = pick_numbered r i (omega arith) in let q = x.numbered in record { one = x.one; picked = x.picked; numbered = omega arith }

-- ---- tables

pub record IsTableAt (n : ℕ) (f : Forest) (t : Table) : Type 0 where
  pub found : At n f t.row t.token t.under
  pub is_table : t.token.kind ≡ kind_of_table

tables_at : (n : ℕ) (f : Forest) (t : Table) → Memᴰ t (tables n f) → IsTableAt n f t
unfolding tables is_kind when◌then◌else◌
tables_at n none t m = absurd (Memᴰ.not-nil m)
tables_at n (node u below after) t m = go (is_kind kind_of_table u.kind) refl (tables_at (suc n) below t) (tables_at (suc n + size below) after t) m
  where
    inside : IsTableAt (suc n) below t → IsTableAt n (node u below after) t
    inside x = record { found = under x.found; is_table = x.is_table }

    beyond : IsTableAt (suc n + size below) after t → IsTableAt n (node u below after) t
    beyond x = record { found = later x.found; is_table = x.is_table }

    own : is_kind kind_of_table u.kind ≡ true → t ≡ record { row = n; token = u; under = below } → IsTableAt n (node u below after) t
    own e q = subst (λ (x : Table). IsTableAt n (node u below after) x) (sym q) (record { found = here; is_table = sym (same_number _ _ (eqb-true (kind_number kind_of_table) (kind_number u.kind) e)) })

    go : (b : Bool) → is_kind kind_of_table u.kind ≡ b → (Memᴰ t (tables (suc n) below) → IsTableAt (suc n) below t)
        → (Memᴰ t (tables (suc n + size below) after) → IsTableAt (suc n + size below) after t)
        → Memᴰ t ((when b then record { row = n; token = u; under = below } ∷ [] else tables (suc n) below) ++ tables (suc n + size below) after)
        → IsTableAt n (node u below after) t
    go true e h k m = elim (Memᴰ.append_cases (record { row = n; token = u; under = below } ∷ []) m) [ inl i ↦ own e (Memᴰ.eq_of_singleton i) | inr i ↦ beyond (k i) ]
    go false e h k m = elim (Memᴰ.append_cases (tables (suc n) below) m) [ inl i ↦ inside (h i) | inr i ↦ beyond (k i) ]

pub table_picked : (f : Forest) (i : ℕ) (t : Table) → pick (tables 0 f) i ≡ done t → IsTableAt 0 f t
table_picked f i t e = tables_at 0 f t (pick_member (tables 0 f) i e)

-- ---- leaves

pub record IsLeafAt (n : ℕ) (f : Forest) (leaf_row : ℕ) : Type 0 where
  pub row : ℕ
  pub field : Token
  pub token : Token
  pub found : Field n f row field leaf_row token
  pub is_leaf : token.kind ≡ kind_of_leaf

pub leaf_picked : (t : Table) (i leaf_row : ℕ) → Placed 0 (below_first t.under) → pick (leaf_rows t) i ≡ done leaf_row → IsLeafAt (member_row t.row) (below_first t.under) leaf_row
unfolding leaf_rows
leaf_picked t i leaf_row p e =
    let s = Memᴰ.of_map _ _ (pick_member _ i e) in
    let x = of_leaves {A = ℕ} 0 (member_row t.row) 0 p s.1 in
    let y = at_field x.found in
    subst (λ (r : ℕ). IsLeafAt (member_row t.row) (below_first t.under) r) s.2 (record { row = y.0; field = y.1; token = x.token; found = y.2; is_leaf = x.is_leaf })
