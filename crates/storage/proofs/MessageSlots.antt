-- The payloads and slots of an accepted message. Payloads that are cut into slots lie inside the message and apart; their slots lie end to
-- end, each where 01's formula says. Assumes nothing.
use Prim.Native.Nat.{ℕ, ◌+◌, ◌≤◌}
use mathlib.Core.Path.{◌≡◌, refl, sym, subst, subst₃, ap, ◌∙◌}
use mathlib.Core.List.{List, Memᴰ}
use mathlib.Core.Logic.{◌⊎◌, inl, inr}
use native.Mathlib.Omega.{arith}
use lib.ListN.{length}
use Rattle.format.specs.Grammars.{Grammar}
use Rattle.format.specs.Outcome.{done}
use Rattle.format.specs.Marks.{Opening, bracket, brace, opens, '[', left_brace}
use Rattle.format.specs.Tokens.{Token, packed, table, Forest, node}
use Rattle.format.specs.Indexes.{number_in}
use Rattle.format.specs.Storage.{Slot, member_row, dimensions_of, storage}
use Rattle.format.specs.Addresses.{Region}
use Rattle.format.specs.Read.{read}
use Rattle.laws.specs.Places.{At, IsCut, Apart}
use Rattle.laws.specs.Tiles.{Tiles}
use Rattle.laws.proofs.Holds.{of_done}
use Rattle.laws.proofs.Order.{InOrder}
use Rattle.laws.proofs.Bounds.{read_bounded}
use Rattle.storage.specs.Places.{Field}
use Rattle.storage.specs.Addresses.{indexes_of, address_of, region_of, Names, Below}
use Rattle.storage.specs.Formulas.{in_array, in_row, in_column}
use Rattle.storage.specs.Regions.{RegionsApart}
use Rattle.storage.proofs.Places.{at_same}
use Rattle.storage.proofs.Payloads.{payload_inside, cut_apart}
use Rattle.storage.proofs.Tiling.{tile_inside, tiles_apart}
use Rattle.storage.proofs.Stored.{IsTable, Stored, at_stored, as_packed, as_table, table_of_lem, read_stored}
use Rattle.storage.proofs.Leaves.{leaf_slot}
use Rattle.storage.proofs.Cuts.{formula_of}
use Rattle.storage.proofs.Storage.{of_packed, slot_at, slot_named, slot_same, stored_tiles}

-- regions that start at one place
same_first : {mark first first' wide : ℕ} → first ≡ first'
    → ◌≡◌ {A = Region} (record { mark = mark; first = first; wide = wide }) (record { mark = mark; first = first'; wide = wide })
same_first {mark} {wide = wide} e = ap (λ x. record { mark = mark; first = x; wide = wide }) e

module _ (m : List ℕ) (rows_lent : ℕ) (grammar : Grammar) (f : Forest) (accepted : read m rows_lent grammar ≡ done f) where
  -- ---- payloads

  in_order : InOrder 0 (length m) f
  in_order = (of_done f (read_bounded m rows_lent grammar) accepted).1

  -- The payload of a packed array or table lies inside the message.
  pub payload_in_message : {row : ℕ} {t : Token} {below : Forest} → At 0 f row t below → IsCut t.kind → t.payload + t.extent ≤ length m
  payload_in_message x c = (payload_inside in_order x c).1

  -- The payloads of different rows lie apart.
  pub payloads_apart : {row row' : ℕ} {t t' : Token} {below below' : Forest} → At 0 f row t below → At 0 f row' t' below' → IsCut t.kind → IsCut t'.kind
      → (row ≡ row') ⊎ Apart t.payload t.extent t'.payload t'.extent
  payloads_apart x y c d = cut_apart in_order x y c d

  -- ---- slots

  -- a packed array or table is one that reading gives
  pub is_stored : {row : ℕ} {t : Token} {below : Forest} → At 0 f row t below → IsCut t.kind → Stored t below
  is_stored x c = at_stored (of_done f (read_stored m rows_lent grammar) accepted) x c

  -- The slots of a packed array or table lie end to end, from its payload's first byte to its last.
  pub slots_tile : {row : ℕ} {t : Token} {below : Forest} → At 0 f row t below → IsCut t.kind → Tiles t.extent 0 (storage row t below)
  slots_tile {row} x c = stored_tiles row (is_stored x c)

  -- So a slot's bytes lie inside the payload.
  pub slot_in_payload : {row : ℕ} {t : Token} {below : Forest} {s : Slot (List ℕ)} → At 0 f row t below → IsCut t.kind → Memᴰ s (storage row t below)
      → (t.payload ≤ (region_of t s).first) × ((region_of t s).first + (region_of t s).wide ≤ t.payload + t.extent)
  unfolding region_of
  slot_in_payload x c i = let h = tile_inside (slots_tile x c) i in (omega arith, omega arith)

  -- The address of a slot names the row, with indexes in range.
  pub slot_in_range : {row : ℕ} {t : Token} {below : Forest} {s : Slot (List ℕ)} → At 0 f row t below → IsCut t.kind → Memᴰ s (storage row t below)
      → Names f (address_of row t s) row t below × Below (indexes_of (address_of row t s)) (dimensions_of t below)
  slot_in_range x c i = slot_named (is_stored x c) x i

  -- No two slots of a row have one address.
  pub one_slot : {row : ℕ} {t : Token} {below : Forest} {s s' : Slot (List ℕ)} → At 0 f row t below → IsCut t.kind
      → Memᴰ s (storage row t below) → Memᴰ s' (storage row t below) → address_of row t s ≡ address_of row t s' → s ≡ s'
  one_slot {row} x c i j e = slot_same row (is_stored x c) i j e

  -- ---- the formulas

  -- An element stands where the formula says.
  pub packed_formula : {row : ℕ} {t : Token} {below : Forest} {s : Slot (List ℕ)} → At 0 f row t below → t.kind ≡ packed → Memᴰ s (storage row t below)
      → region_of t s ≡ in_array t (number_in t.order (dimensions_of t below) s.element)
  unfolding region_of in_array
  packed_formula {row} {t} {below} x k i = ap (region_of t) (of_packed row t below (as_packed (is_stored x (inl k)) k) i).1

  module _ {row row_of_field : ℕ} {t schema field l : Token} {members dims : Forest} {s : Slot (List ℕ)} (x : At 0 f row t (node schema members dims)) (k : t.kind ≡ table)
      (i : Memᴰ s (storage row t (node schema members dims))) (y : Field (member_row row) members row_of_field field s.leaf_row l) where
    -- the number of its record
    abbrev numbered : ℕ
    numbered = number_in t.order (dimensions_of t (node schema members dims)) s.element

    -- it is a table, by rows or by columns
    the_table : IsTable t schema members dims
    the_table = table_of_lem (as_table (is_stored x (inr k)) k)

    by_layout : (o : Opening) → t.mark ≡ opens o → (the_table.opening ≡ o)
    unfolding opens
    by_layout o e = go o the_table.opening (sym the_table.mark_is ∙ e)
      where
        go : (o p : Opening) → opens p ≡ opens o → p ≡ o
        go bracket bracket e = refl
        go bracket brace e = absurd (omega arith)
        go brace bracket e = absurd (omega arith)
        go brace brace e = refl

    -- the region by the layout's formula
    region_is : (o : Opening) → t.mark ≡ opens o → region_of t s ≡ region_of t (leaf_slot s.leaf_row l s.element (formula_of o t.count schema.extent field l numbered))
    region_is o e = ap (region_of t) (slot_at row t schema members dims the_table i y)
        ∙ ap (λ p. region_of t (leaf_slot s.leaf_row l s.element (formula_of p t.count schema.extent field l numbered))) (by_layout o e)

    -- So does a leaf of a table by rows, in the record that the indexes number.
    pub rows_formula : t.mark ≡ '[' → region_of t s ≡ in_row t schema l numbered
    unfolding region_of in_row opens
    rows_formula e = region_is bracket e ∙ same_first (omega arith)

    -- And one of a table by columns, in its top-level field.
    pub columns_formula : t.mark ≡ left_brace → region_of t s ≡ in_column t field l numbered
    unfolding region_of in_column opens
    columns_formula e = region_is brace e ∙ same_first (omega arith)

  -- two slots of one row
  row_apart : {row : ℕ} {t : Token} {below : Forest} {s s' : Slot (List ℕ)} → At 0 f row t below → IsCut t.kind
      → Memᴰ s (storage row t below) → Memᴰ s' (storage row t below) → (address_of row t s ≡ address_of row t s') ⊎ RegionsApart (region_of t s) (region_of t s')
  unfolding region_of
  row_apart {row} {t} x c i j = elim (tiles_apart (slots_tile x c) i j) [
    | inl e ↦ inl (ap (address_of row t) e)
    | inr h ↦ inr (elim h [ inl k ↦ inl (omega arith) | inr k ↦ inr (omega arith) ])
  ]

  -- Two slots, of one row or of two, have the same address, or they lie apart.
  pub slots_apart : {row row' : ℕ} {t t' : Token} {below below' : Forest} {s s' : Slot (List ℕ)} → At 0 f row t below → At 0 f row' t' below' → IsCut t.kind → IsCut t'.kind
      → Memᴰ s (storage row t below) → Memᴰ s' (storage row' t' below') → (address_of row t s ≡ address_of row' t' s') ⊎ RegionsApart (region_of t s) (region_of t' s')
  slots_apart {row} {t = t} {below = below} {s = s} {s' = s'} x y c d i j = elim (payloads_apart x y c d) [
    | inl e ↦ (
        let k = at_same (subst (λ r. At 0 f r t below) e x) y in
        subst₃ (λ r u v. Memᴰ s' (storage r u v) → (address_of row t s ≡ address_of r u s') ⊎ RegionsApart (region_of t s) (region_of u s')) e k.0 k.1 (λ j. row_apart x c i j) j)
    | inr h ↦ (
        let p = slot_in_payload x c i in
        let q = slot_in_payload y d j in
        inr (elim h [ inl k ↦ inl (omega arith) | inr k ↦ inr (omega arith) ]))
  ]
