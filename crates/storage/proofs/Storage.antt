-- The storage of a packed array and of a table that reading gives. Assumes nothing.
use Prim.Native.Nat.{ℕ, ◌*◌}
use mathlib.Core.Path.{◌≡◌, refl, sym, subst, ap, ◌∙◌}
use mathlib.Core.List.{List, [], ◌∷◌, Memᴰ}
use native.Mathlib.Nat.{mul-one}
use lib.Dec.{eqb}
use Rattle.format.specs.Conditions.{when◌then◌else◌}
use Rattle.format.specs.Marks.{Opening, bracket, brace, opens, width}
use Rattle.format.specs.Tokens.{Token, leaf as kind_of_leaf, is_kind, plain_count, Forest, node, below_first, after_first, counts}
use Rattle.format.specs.Records.{total_width}
use Rattle.format.specs.Indexes.{product, indexes, number_in}
use Rattle.format.specs.Storage.{Slot, member_row, elements, records, layout_of, slots_of, dimensions_of, storage}
use Rattle.laws.specs.Places.{At}
use Rattle.laws.specs.Tiles.{Tiles}
use Rattle.laws.proofs.Slots.{tiles_at, elements_tile, records_tile, members_measured}
use Rattle.storage.specs.Places.{Field}
use Rattle.storage.specs.Addresses.{in_packed, in_table, indexes_of, address_of, Names, packed_row, table_leaf, Below}
use Rattle.storage.proofs.Places.{field_at, field_same}
use Rattle.storage.proofs.Numbering.{Numbered, numbered_length, indexes_numbered, in_indexes, of_indexes}
use Rattle.laws.proofs.Counts.{Shaped, plain, vector}
use Rattle.storage.proofs.Stored.{IsPacked, IsTable, Stored, packed_array, record_table}
use Rattle.storage.proofs.Leaves.{leaf_slot, element_slot}
use Rattle.storage.proofs.Cuts.{formula_of, TableSlot, in_elements, of_elements, in_records, of_records}

-- as many elements or records as the count says
counted : {highest order n : ℕ} {f : Forest} → Shaped highest order n f → product (when eqb order plain_count then n ∷ [] else counts f) ≡ n
unfolding product when◌then◌else◌
counted (plain {n = n}) = mul-one n
counted (vector e h v) = rw e

-- their indexes are numbered by the formula
numbered : (order n : ℕ) (ds : List ℕ) → product ds ≡ n → Numbered (number_in order ds) n 0 (indexes order ds)
numbered order n ds e = subst (λ x. Numbered (number_in order ds) x 0 (indexes order ds)) e (indexes_numbered order ds)

-- ---- a packed array

module _ (row : ℕ) (t : Token) (below : Forest) (ok : IsPacked t below) where
  -- its dimensions
  pub packed_dimensions : dimensions_of t below ≡ (when eqb t.order plain_count then t.count ∷ [] else counts below)
  unfolding dimensions_of is_kind when◌then◌else◌
  packed_dimensions = rw ok.kind_is

  packed_numbered : Numbered (number_in t.order (dimensions_of t below)) t.count 0 (indexes t.order (dimensions_of t below))
  packed_numbered = numbered t.order t.count (dimensions_of t below) (ap product packed_dimensions ∙ counted ok.shaped)

  packed_storage : storage row t below ≡ elements row t.mark (indexes t.order (dimensions_of t below))
  unfolding storage slots_of is_kind when◌then◌else◌
  packed_storage = rw ok.kind_is

  -- the address of a slot
  pub packed_address : (s : Slot (List ℕ)) → address_of row t s ≡ in_packed row s.element
  unfolding address_of is_kind when◌then◌else◌
  packed_address s = rw ok.kind_is

  -- its slots lie end to end
  pub packed_tiles : Tiles t.extent 0 (storage row t below)
  packed_tiles = rw packed_storage (tiles_at 0 _ refl (ap (λ n. n * width t.mark) (numbered_length packed_numbered) ∙ sym ok.extent_is) (elements_tile row t.mark _))

  -- the element with these indexes
  abbrev pub element_at : List ℕ → Slot (List ℕ)
  element_at is = element_slot row t.mark is (number_in t.order (dimensions_of t below) is * width t.mark)

  -- indexes in range have their element
  pub in_packed_lem : {is : List ℕ} → Below is (dimensions_of t below) → Memᴰ (element_at is) (storage row t below)
  in_packed_lem h = rw packed_storage (in_elements packed_numbered row t.mark _ (in_indexes t.order (dimensions_of t below) h) refl)

  -- and every slot is such an element
  pub of_packed : {s : Slot (List ℕ)} → Memᴰ s (storage row t below) → Below s.element (dimensions_of t below) × (s ≡ element_at s.element)
  of_packed m =
      let x = of_elements packed_numbered row t.mark (rw packed_storage at m) in
      (of_indexes t.order (dimensions_of t below) x.0, x.1)

-- ---- a table

-- an opening's mark tells the layout
pub layout_is : (o : Opening) → layout_of (opens o) ≡ o
unfolding layout_of opens when◌then◌else◌
layout_is bracket = refl
layout_is brace = refl

module _ (row : ℕ) (t s : Token) (members dims : Forest) (ok : IsTable t s members dims) where
  -- its dimensions
  abbrev ds : List ℕ
  ds = dimensions_of t (node s members dims)

  pub table_dimensions : ds ≡ (when eqb t.order plain_count then t.count ∷ [] else counts dims)
  unfolding dimensions_of is_kind when◌then◌else◌ after_first
  table_dimensions = rw ok.kind_is

  pub table_numbered : Numbered (number_in t.order ds) t.count 0 (indexes t.order ds)
  table_numbered = numbered t.order t.count ds (ap product table_dimensions ∙ counted ok.shaped)

  table_storage : storage row t (node s members dims) ≡ records ok.opening (member_row row) members (indexes t.order ds)
  unfolding storage slots_of is_kind when◌then◌else◌ below_first
  table_storage = rw (ok.kind_is, ok.mark_is, layout_is ok.opening)

  -- the address of a slot
  pub table_address : (x : Slot (List ℕ)) → address_of row t x ≡ in_table row x.leaf_row x.element
  unfolding address_of is_kind when◌then◌else◌
  table_address x = rw ok.kind_is

  -- its slots lie end to end
  pub table_tiles : Tiles t.extent 0 (storage row t (node s members dims))
  table_tiles = rw table_storage (tiles_at 0 _ refl (ap (λ n. n * total_width members) (numbered_length table_numbered) ∙ ap (λ w. t.count * w) (sym ok.width_is) ∙ sym ok.extent_is)
      (records_tile ok.opening (member_row row) (members_measured ok.keyed) _))

  -- the slot of a leaf, in its field, and of the record with these indexes; records have so many bytes
  abbrev leaf_of : ℕ → ℕ → Token → Token → List ℕ → Slot (List ℕ)
  leaf_of wide leaf_row field l is = leaf_slot leaf_row l is (formula_of ok.opening t.count wide field l (number_in t.order ds is))

  abbrev pub leaf_at : ℕ → Token → Token → List ℕ → Slot (List ℕ)
  leaf_at = leaf_of s.extent

  -- a leaf of the schema and indexes in range have their slot
  pub in_table_lem : {row_of_field leaf_row : ℕ} {field l : Token} {is : List ℕ} → Field (member_row row) members row_of_field field leaf_row l → l.kind ≡ kind_of_leaf
      → Below is ds → Memᴰ (leaf_at leaf_row field l is) (storage row t (node s members dims))
  in_table_lem {leaf_row = leaf_row} {field = field} {l = l} {is = is} x k h =
      rw table_storage
      (subst (λ w. Memᴰ (leaf_of w leaf_row field l is) (records ok.opening (member_row row) members (indexes t.order ds))) (sym ok.width_is)
      (in_records table_numbered (member_row row) ok.offsets ok.opening x k (in_indexes t.order ds h)))

  -- and every slot is such a leaf's
  pub of_table : {x : Slot (List ℕ)} → Memᴰ x (storage row t (node s members dims))
      → TableSlot table_numbered (member_row row) members (formula_of ok.opening t.count s.extent) x
  of_table {x} m =
      subst (λ w. TableSlot table_numbered (member_row row) members (formula_of ok.opening t.count w) x) (sym ok.width_is)
      (of_records table_numbered (member_row row) ok.offsets ok.opening (rw table_storage at m))

  -- so a slot is that of its leaf, in its leaf's field
  pub slot_at : {x : Slot (List ℕ)} {row_of_field : ℕ} {field l : Token} → Memᴰ x (storage row t (node s members dims)) → Field (member_row row) members row_of_field field x.leaf_row l
      → x ≡ leaf_at x.leaf_row field l x.element
  slot_at {x} {field = field} m y =
      let z = of_table m in
      let e = field_same z.found y in
      z.slot_is ∙ ap (λ u. leaf_at x.leaf_row u z.token x.element) e.0 ∙ ap (λ u. leaf_at x.leaf_row field u x.element) e.1

-- ---- either

-- the address of a slot names its row, with indexes in range
pub slot_named : {f below : Forest} {row : ℕ} {t : Token} {x : Slot (List ℕ)} → Stored t below → At 0 f row t below → Memᴰ x (storage row t below)
    → Names f (address_of row t x) row t below × Below (indexes_of (address_of row t x)) (dimensions_of t below)
unfolding indexes_of below_first
slot_named {below = below} {row} {t} {x} (packed_array ok) a m =
    rw (packed_address row t below ok x) (packed_row a ok.kind_is, (of_packed row t below ok m).0)
slot_named {row = row} {t} {x} (record_table {s = s} {members = members} {dimensions = dims} ok) a m =
    let y = of_table row t s members dims ok m in
    rw (table_address row t s members dims ok x)
    (table_leaf a ok.kind_is (field_at y.found).1 y.is_leaf, of_indexes t.order (dimensions_of t (node s members dims)) y.in_list)

-- no two slots have one address
pub slot_same : {below : Forest} {t : Token} {x y : Slot (List ℕ)} (row : ℕ) → Stored t below → Memᴰ x (storage row t below) → Memᴰ y (storage row t below)
    → address_of row t x ≡ address_of row t y → x ≡ y
slot_same {below} {t} {x} {y} row (packed_array ok) m n e =
    let q : in_packed row x.element ≡ in_packed row y.element = sym (packed_address row t below ok x) ∙ e ∙ packed_address row t below ok y in
    let d : x.element ≡ y.element = cc in
    (of_packed row t below ok m).1 ∙ ap (element_at row t below ok) d ∙ sym (of_packed row t below ok n).1
slot_same {t = t} {x} {y} row (record_table {s = s} {members = members} {dimensions = dims} ok) m n e =
    let q : in_table row x.leaf_row x.element ≡ in_table row y.leaf_row y.element = sym (table_address row t s members dims ok x) ∙ e ∙ table_address row t s members dims ok y in
    let l : x.leaf_row ≡ y.leaf_row = cc in
    let d : x.element ≡ y.element = cc in
    let z = of_table row t s members dims ok n in
    slot_at row t s members dims ok m (subst (λ r. Field (member_row row) members z.row z.field r z.token) (sym l) z.found)
    ∙ ap (λ r. leaf_at row t s members dims ok r z.field z.token x.element) l
    ∙ ap (λ i. leaf_at row t s members dims ok y.leaf_row z.field z.token i) d
    ∙ sym z.slot_is

-- slots lie end to end
pub stored_tiles : {t : Token} {below : Forest} (row : ℕ) → Stored t below → Tiles t.extent 0 (storage row t below)
stored_tiles {t} {below} row (packed_array ok) = packed_tiles row t below ok
stored_tiles {t} row (record_table {s = s} {members = members} {dimensions = dims} ok) = table_tiles row t s members dims ok
