-- Packed arrays and tables cut in storage order: each slot stands where the formula says. Assumes nothing.
use Prim.Native.Nat.{ℕ, suc, ◌+◌, ◌-◌, ◌*◌}
use mathlib.Core.Path.{◌≡◌, refl, sym, subst, ap, ◌∙◌}
use mathlib.Core.List.Memᴰ
use mathlib.Core.List.{List, ◌++◌, Memᴰ}
use mathlib.Core.Logic.{inl, inr}
use native.Mathlib.Omega.{arith}
use native.Mathlib.Nat.{mul-add}
use Rattle.format.specs.Marks.{Opening, bracket, brace, width}
use Rattle.format.specs.Tokens.{Token, leaf as kind_of_leaf, Forest, none, node, size}
use Rattle.format.specs.Records.{member_width, total_width}
use Rattle.format.specs.Storage.{Slot, end_to_end, elements, leaves, by_rows, by_columns, records}
use Rattle.storage.specs.Places.{Field, own, next}
use Rattle.storage.proofs.Places.{at_field, field_at}
use Rattle.storage.proofs.Numbering.{Numbered, numbered_length}
use Rattle.storage.proofs.Offsets.{Placed}
use Rattle.storage.proofs.Ends.{in_cut, of_cut}
use Rattle.storage.proofs.Leaves.{leaf_slot, element_slot, in_leaves, of_leaves, leaf_from, alone, rest, holds_leaf}

-- where a leaf stands, counted from the payload's first byte, by the table's layout: N records of so many bytes, the leaf's field, the
-- leaf and record r
abbrev pub formula_of : Opening → ℕ → ℕ → Token → Token → ℕ → ℕ
formula_of bracket n wide field leaf r = r * wide + leaf.payload
formula_of brace n wide field leaf r = n * field.payload + r * field.extent + (leaf.payload - field.payload)

-- of elements or records in their order
module _ {A : Type 0} {number : A → ℕ} {count : ℕ} {l : List A} (numbered : Numbered number count 0 l) where
  -- every element has its slot
  pub in_elements : (row mark place : ℕ) {a : A} → Memᴰ a l → place ≡ number a * width mark
      → Memᴰ (element_slot row mark a place) (elements row mark l)
  unfolding elements
  in_elements row mark place {a} m e =
      let q : place ≡ 0 + number a * width mark = omega arith in
      in_cut numbered 0 (width mark) _ m (Memᴰ.head (ap (element_slot row mark a) q))

  -- and every slot is an element's
  pub of_elements : (row mark : ℕ) {s : Slot A} → Memᴰ s (elements row mark l)
      → Memᴰ s.element l × (s ≡ element_slot row mark s.element (number s.element * width mark))
  unfolding elements
  of_elements row mark {s} m =
      let x = of_cut numbered 0 (width mark) _ m in
      let q : 0 + number x.0 * width mark ≡ number x.0 * width mark = omega arith in
      let e : s ≡ element_slot row mark x.0 (number x.0 * width mark) = Memᴰ.eq_of_singleton x.2 ∙ ap (element_slot row mark x.0) q in
      subst (λ y. Memᴰ y.element l × (y ≡ element_slot row mark y.element (number y.element * width mark))) (sym e) (x.1, refl)

  -- a slot of a table: its leaf, the leaf's field and the record, and where it stands
  pub record TableSlot (n : ℕ) (f : Forest) (formula : Token → Token → ℕ → ℕ) (s : Slot A) : Type 0 where
    pub row : ℕ
    pub field : Token
    pub token : Token
    pub found : Field n f row field s.leaf_row token
    pub is_leaf : token.kind ≡ kind_of_leaf
    pub in_list : Memᴰ s.element l
    pub slot_is : s ≡ leaf_slot s.leaf_row token s.element (formula field token (number s.element))

  -- a slot of a leaf that stands where the formula says
  table_slot : {n row : ℕ} {f : Forest} {u t : Token} {a : A} {s : Slot A} (formula : Token → Token → ℕ → ℕ) → Field n f row u s.leaf_row t → t.kind ≡ kind_of_leaf
      → Memᴰ a l → s ≡ leaf_slot s.leaf_row t a s.offset → s.offset ≡ formula u t (number a) → TableSlot n f formula s
  table_slot {row = row} {u = u} {t = t} {a = a} {s = s} formula x k m e q =
      let c : s.element ≡ a = ap (λ z. z.element) e in
      record {
        row = row;
        field = u;
        token = t;
        found = x;
        is_leaf = k;
        in_list = Memᴰ.cast c m;
        slot_is = e ∙ ap (leaf_slot s.leaf_row t a) q ∙ ap (λ b. leaf_slot s.leaf_row t b (formula u t (number b))) (sym c);
      }

  -- ---- by rows

  module _ (n : ℕ) {f : Forest} (p : Placed 0 f) where
    in_rows : {row leaf_row : ℕ} {u t : Token} {a : A} → Field n f row u leaf_row t → t.kind ≡ kind_of_leaf → Memᴰ a l
        → Memᴰ (leaf_slot leaf_row t a (formula_of bracket count (total_width f) u t (number a))) (by_rows n f l)
    unfolding by_rows
    in_rows {a = a} x k m = in_cut numbered 0 (total_width f) _ m (in_leaves a p (field_at x).1 k _ _ (omega arith))

    of_rows : {s : Slot A} → Memᴰ s (by_rows n f l) → TableSlot n f (formula_of bracket count (total_width f)) s
    unfolding by_rows
    of_rows {s} m =
        let x = of_cut numbered 0 (total_width f) _ m in
        let y = of_leaves x.0 n _ p x.2 in
        let z = at_field y.found in
        table_slot (formula_of bracket count (total_width f)) z.2 y.is_leaf x.1 y.slot_is (let q = y.place_is in omega arith)

  -- ---- by columns

  no_columns : (n at : ℕ) {s : Slot A} → Memᴰ s (by_columns n none l at) → ⊥
  unfolding by_columns
  no_columns n at m = Memᴰ.not-nil m

  -- one field's values, and then those of the fields after it
  column : ℕ → Token → Forest → ℕ → List (Slot A)
  column n t below at = end_to_end l (member_width t) (leaves n (node t below none)) at

  columns_step : (offset n : ℕ) (t : Token) (below after : Forest)
      → by_columns n (node t below after) l (count * offset) ≡ column n t below (count * offset) ++ by_columns (suc n + size below) after l (count * (offset + member_width t))
  unfolding by_columns column
  columns_step offset n t below after = rw (numbered_length numbered, mul-add count offset (member_width t))

  -- the fields from one on, whose first offset is given: every leaf of every record has its slot
  in_columns_from : {offset n row leaf_row : ℕ} {f : Forest} {u t : Token} {a : A} → Placed offset f → Field n f row u leaf_row t → t.kind ≡ kind_of_leaf → Memᴰ a l
      → Memᴰ (leaf_slot leaf_row t a (formula_of brace count 0 u t (number a))) (by_columns n f l (count * offset))
  unfolding column
  in_columns_from {offset} {n} {a = a} p (own {t = u} {below = below} {after = after} x) k m =
      let h = holds_leaf (alone p) x k in
      let g = leaf_from (alone p) x k in
      let c = ap (λ y. count * y) h.0 in
      let d = ap (λ y. number a * y) h.1 in
      rw (columns_step offset n u below after) (Memᴰ.append_left _ (in_cut numbered (count * offset) (member_width u) _ m (in_leaves a (alone p) x k _ _ (omega arith))))
  in_columns_from {offset} {n} p (next {u = u} {below = below} {after = after} x) k m =
      rw (columns_step offset n u below after) (Memᴰ.append_right (column n u below (count * offset)) (in_columns_from {offset = offset + member_width u} (rest p) x k m))

  -- and every slot is a leaf's
  of_columns_from : {offset n : ℕ} (wide : ℕ) (f : Forest) {s : Slot A} → Placed offset f → Memᴰ s (by_columns n f l (count * offset)) → TableSlot n f (formula_of brace count wide) s
  unfolding column
  of_columns_from {n = n} wide none p m = absurd (no_columns n _ m)
  of_columns_from {offset} {n} wide (node t below after) {s} p m =
      elim (Memᴰ.append_cases (column n t below (count * offset)) (rw (columns_step offset n t below after) at m)) [
        | inl h ↦ (
            let x = of_cut numbered (count * offset) (member_width t) _ h in
            let y = of_leaves x.0 n _ (alone p) x.2 in
            let h = holds_leaf (alone p) y.found y.is_leaf in
            let g = leaf_from (alone p) y.found y.is_leaf in
            let c = ap (λ z. count * z) h.0 in
            let d = ap (λ z. number x.0 * z) h.1 in
            table_slot (formula_of brace count wide) (own y.found) y.is_leaf x.1 y.slot_is (let q = y.place_is in omega arith))
        | inr h ↦ (
            let x = of_columns_from {offset = offset + member_width t} wide after (rest p) h in
            record { row = x.row; field = x.field; token = x.token; found = next x.found; is_leaf = x.is_leaf; in_list = x.in_list; slot_is = x.slot_is })
      ]

  -- from the payload's first byte
  module _ (n : ℕ) {f : Forest} (p : Placed 0 f) where
    first : by_columns n f l (count * 0) ≡ by_columns n f l 0
    first = let e : count * 0 ≡ 0 = omega arith in rw e

    in_columns : {row leaf_row : ℕ} {u t : Token} {a : A} → Field n f row u leaf_row t → t.kind ≡ kind_of_leaf → Memᴰ a l
        → Memᴰ (leaf_slot leaf_row t a (formula_of brace count 0 u t (number a))) (by_columns n f l 0)
    in_columns x k m = rw first at (in_columns_from p x k m)

    of_columns : {s : Slot A} → Memᴰ s (by_columns n f l 0) → TableSlot n f (formula_of brace count (total_width f)) s
    of_columns m = of_columns_from (total_width f) f p (rw (← first) at m)

  -- ---- by either

  module _ (n : ℕ) {f : Forest} (p : Placed 0 f) where
    -- every leaf of every record has its slot
    pub in_records : (o : Opening) {row leaf_row : ℕ} {u t : Token} {a : A} → Field n f row u leaf_row t → t.kind ≡ kind_of_leaf → Memᴰ a l
        → Memᴰ (leaf_slot leaf_row t a (formula_of o count (total_width f) u t (number a))) (records o n f l)
    unfolding records
    in_records bracket x k m = in_rows n p x k m
    in_records brace x k m = in_columns n p x k m

    -- and every slot is a leaf's
    pub of_records : (o : Opening) {s : Slot A} → Memᴰ s (records o n f l) → TableSlot n f (formula_of o count (total_width f)) s
    unfolding records
    of_records bracket m = of_rows n p m
    of_records brace m = of_columns n p m
