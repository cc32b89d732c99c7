-- The slot of a leaf and a record, looked for in the slots of a table, stands where the formulas say. Assumes nothing.
use Prim.Native.Nat.{ℕ, ◌≤◌, ◌<◌}
use mathlib.Core.Path.{◌≡◌, refl, sym, ◌∙◌, ap, subst}
use mathlib.Core.Bool.{Bool, true, false, ◌&&◌}
use mathlib.Core.List.Memᴰ
use mathlib.Core.List.{List, [], ◌∷◌, Memᴰ}
use mathlib.Core.Logic.{inl, inr}
use native.Mathlib.Omega.{arith}
use lib.Dec.{eqb}
use borrow.Author.Tests.{eqb-true, eqb-false}
use Rattle.format.specs.Conditions.{when◌then◌else◌}
use Rattle.format.specs.Outcome.{Outcome, fault, done}
use Rattle.format.specs.Refusals.{not_there}
use Rattle.format.specs.Marks.{Opening, opens}
use Rattle.format.specs.Tokens.{Token, table as kind_of_table, leaf as kind_of_leaf, is_kind, Forest, below_first}
use Rattle.format.specs.Records.{total_width}
use Rattle.format.specs.Indexes.{below}
use Rattle.format.specs.Storage.{Slot, member_row, records, slots_of}
use Rattle.format.specs.Panel.{slot_for}
use Rattle.storage.specs.Places.{Field}
use Rattle.storage.proofs.Places.{field_same}
use Rattle.storage.proofs.Numbering.{in_below, of_below, numbered_below}
use Rattle.storage.proofs.Offsets.{Placed}
use Rattle.storage.proofs.Leaves.{leaf_slot}
use Rattle.storage.proofs.Storage.{layout_is}
use Rattle.storage.proofs.Cuts.{formula_of, in_records, of_records}

-- ---- in any list

-- a slot of the leaf and the record, or none
pub data Looked (leaf_row r : ℕ) (l : List (Slot ℕ)) : Outcome (Slot ℕ) → Type 0 where
  found : {s : Slot ℕ} → Memᴰ s l → s.leaf_row ≡ leaf_row → s.element ≡ r → Looked leaf_row r l (done s)
  nowhere : ((s : Slot ℕ) → Memᴰ s l → s.leaf_row ≡ leaf_row → s.element ≡ r → ⊥) → Looked leaf_row r l (fault not_there 0)

pub looked : (leaf_row r : ℕ) (l : List (Slot ℕ)) → Looked leaf_row r l (slot_for leaf_row r l)
unfolding slot_for when◌then◌else◌
looked leaf_row r [] = nowhere λ s m. absurd (Memᴰ.not-nil m)
looked leaf_row r (s ∷ l) = go (eqb s.leaf_row leaf_row) (eqb s.element r) refl refl (looked leaf_row r l)
  where
    -- another than the first
    later : {o : Outcome (Slot ℕ)} → (s.leaf_row ≡ leaf_row → s.element ≡ r → ⊥) → Looked leaf_row r l o → Looked leaf_row r (s ∷ l) o
    later c (found m e q) = found (Memᴰ.tail m) e q
    later c (nowhere h) = nowhere λ x m e q. elim (Memᴰ.cases_cons m) [ inl i ↦ c (ap (λ (y : Slot ℕ). y.leaf_row) (sym i) ∙ e) (ap (λ (y : Slot ℕ). y.element) (sym i) ∙ q) | inr k ↦ h x k e q ]

    go : (a b : Bool) → eqb s.leaf_row leaf_row ≡ a → eqb s.element r ≡ b → Looked leaf_row r l (slot_for leaf_row r l)
        → Looked leaf_row r (s ∷ l) (when a && b then done s else slot_for leaf_row r l)
    go true true e q k = found (Memᴰ.head refl) (eqb-true _ _ e) (eqb-true _ _ q)
    go true false e q k = later (λ _ c. eqb-false _ _ q c) k
    go false b e q k = later (λ c _. eqb-false _ _ e c) k

-- ---- in the slots of a table

pub table_slots : {A : Type 0} (row : ℕ) (t : Token) (under f : Forest) (o : Opening) (l : List A) → t.kind ≡ kind_of_table → t.mark ≡ opens o → below_first under ≡ f
    → slots_of row t under l ≡ records o (member_row row) f l
unfolding slots_of is_kind when◌then◌else◌
table_slots row t under f o l k m b = rw (k, m, b, layout_is o)

module _ (o : Opening) (n many r : ℕ) {f : Forest} (p : Placed 0 f) where
  -- a leaf's, in its field and a record
  abbrev at : ℕ → Token → Token → ℕ → Slot ℕ
  at leaf_row field token a = leaf_slot leaf_row token a (formula_of o many (total_width f) field token a)

  pub slot_there : {row leaf_row : ℕ} {u l : Token} → Field n f row u leaf_row l → l.kind ≡ kind_of_leaf → r < many
      → slot_for leaf_row r (records o n f (below many)) ≡ done (at leaf_row u l r)
  slot_there {leaf_row = leaf_row} {u = u} {l = l} x k h = go (looked leaf_row r (records o n f (below many)))
    where
      go : {a : Outcome (Slot ℕ)} → Looked leaf_row r (records o n f (below many)) a → a ≡ done (at leaf_row u l r)
      go (found {s = s} m e q) =
          let y = of_records (numbered_below many) n p o m in
          let z = field_same (subst (λ (i : ℕ). Field n f y.row y.field i y.token) e y.found) x in
          ap done (y.slot_is ∙ ap (λ i. at i y.field y.token s.element) e ∙ ap (λ v. at leaf_row v y.token s.element) z.0 ∙ ap (λ v. at leaf_row u v s.element) z.1 ∙ ap (λ i. at leaf_row u l i) q)
      go (nowhere c) = absurd (c _ (in_records (numbered_below many) n p o x k (in_below r many h)) refl refl)

  pub slot_over : (leaf_row : ℕ) → many ≤ r → slot_for leaf_row r (records o n f (below many)) ≡ fault not_there 0
  slot_over leaf_row h = go (looked leaf_row r (records o n f (below many)))
    where
      go : {a : Outcome (Slot ℕ)} → Looked leaf_row r (records o n f (below many)) a → a ≡ fault not_there 0
      go (found {s = s} m e q) = let y = of_records (numbered_below many) n p o m in let i = of_below many y.in_list in absurd (omega arith)
      go (nowhere c) = refl
