-- The address calls at the packed rows and table rows of a message, for any leaf row and any indexes. Assumes nothing.
use Prim.Native.Nat.{ℕ, suc, ◌+◌, ◌*◌, ◌≤◌}
use mathlib.Core.Path.{◌≡◌, refl, sym, subst, subst₂, ap, ◌∙◌}
use mathlib.Core.Bool.{true}
use mathlib.Core.List.{List, [], ◌∷◌}
use mathlib.Core.Logic.{inl, inr}
use native.Mathlib.Omega.{arith}
use native.Mathlib.Numerals.{add-one}
use lib.ListN.{length}
use lib.Dec.{eqb}
use Rattle.format.specs.Conditions.{when◌then◌else◌, among}
use Rattle.format.specs.Outcome.{Outcome, fault, done, ◌>>=◌, ◌>>◌, guard}
use Rattle.format.specs.Refusals.{not_there, rows_dont_fit}
use Rattle.format.specs.Marks.{Opening, bracket, brace, opens, is_type, width, '[', left_brace}
use Rattle.format.specs.Tokens.{Token, packed as kind_of_packed, table as kind_of_table, leaf as kind_of_leaf, first_slowest, first_fastest, plain_count, Forest, node, size, below_first}
use Rattle.format.specs.Rows.{Ancestry, outermost, held_by, row_at, rows_in, row_of}
use Rattle.format.specs.Indexes.{in_range, number_in}
use Rattle.format.specs.Storage.{member_row, dimensions_of}
use Rattle.format.specs.Addresses.{Region, is_packed, is_table, is_schema, child_of, along, seek, dimensions, inside, packed_slot, table_slot}
use Rattle.laws.specs.Places.{At}
use Rattle.storage.specs.Places.{Rowed, Field, Filled}
use Rattle.storage.specs.Addresses.{Address, in_packed, in_table, indexes_of, region_of, Below, packed_row, table_leaf}
use Rattle.storage.specs.Verdicts.{Verdict, wrong_rows, wrong_indexes, answered}
use Rattle.storage.proofs.Places.{rowed_own, rowed_under, rowed_later, rowed_at, at_size, at_same, field_row, field_at, filled_rows, filled_enough}
use Rattle.storage.proofs.Naming.{names_table}
use Rattle.storage.proofs.Numbering.{below_range, below_case, not_in_range}
use Rattle.laws.proofs.Counts.{order_most}
use Rattle.storage.proofs.Tiling.{tile_inside}
use Rattle.storage.proofs.Stored.{IsPacked, IsTable}
use Rattle.storage.proofs.Walks.{is_a_lem, is_one, along-done, child_done, dimensions-done, inside-done}
use Rattle.storage.proofs.Seek.{NoLeaf, Sought, found, missing, seek_law}
use Rattle.storage.proofs.Leaves.{field_from}
use Rattle.storage.proofs.Cuts.{formula_of}
use Rattle.storage.proofs.Storage.{packed_dimensions, packed_address, packed_tiles, element_at, in_packed_lem, table_dimensions, table_address, table_tiles, in_table_lem}

-- of an answer that equals another
verdict_as : {f : Forest} {a : Address} {o o' : Outcome Region} → o' ≡ o → Verdict f a o → Verdict f a o'
verdict_as {f} {a} e v = subst (λ x. Verdict f a x) (sym e) v

module _ (f : Forest) (ws : List ℕ) (filled : Filled f ws) (message_bytes : ℕ) where
  rowed : Rowed ws 0 outermost f
  rowed = filled_rows f ws filled

  rows_fit : size f ≤ rows_in ws
  unfolding rows_in
  rows_fit = let e = filled_enough f ws filled in omega arith

  few_rows : size f ≤ length ws
  few_rows = let e = filled_enough f ws filled in omega arith

  -- a row's ancestry, the row, and the rows below it
  module _ {k : ℕ} {t : Token} {below : Forest} (x : At 0 f k t below) where
    abbrev ancestry : Ancestry
    ancestry = (rowed_at rowed x).0

    row_is : row_at ws k ≡ row_of t (suc k + size below) ancestry
    row_is = (rowed_at rowed x).1

    rows_below : Rowed ws (suc k) (held_by k ancestry) below
    rows_below = (rowed_at rowed x).2

  -- ---- a packed row

  module _ (k : ℕ) (t : Token) (below : Forest) (at : At 0 f k t below) (ok : IsPacked t below) (fits : t.payload + t.extent ≤ message_bytes) where
    -- the call's steps
    along_packed : along ws is_packed (rows_in ws) k ≡ done (suc k + size below)
    unfolding is_packed
    along_packed =
        let z = at_size at in
        let r = rows_fit in
        along-done ws _ (rows_in ws) k _ t _ (row_is at) (is_a_lem kind_of_packed is_type first_fastest t _ _ ok.kind_is ok.mark_is (order_most ok.shaped)) (omega arith) (omega arith)

    packed_call : (is : List ℕ) → packed_slot ws message_bytes k is
        ≡ (guard (in_range (dimensions_of t below) is) not_there 0 >> inside ws message_bytes t.mark (t.payload + number_in t.order (dimensions_of t below) is * width t.mark) 0 (width t.mark))
    unfolding packed_slot ◌>>=◌ row_of
    packed_call is =
        let z = at_size at in
        let r = few_rows in
        let own = row_is at in
        let ds : dimensions ws k (suc k) ≡ done (dimensions_of t below) = dimensions-done ws k (suc k) _ t _ _ own ok.shaped (rows_below at) refl (omega arith) ∙ ap done (sym (packed_dimensions k t below ok)) in
        rw (along_packed, add-one k, ds, own)

    packed_answer : (is : List ℕ) → Below is (dimensions_of t below) → packed_slot ws message_bytes k is ≡ done (region_of t (element_at k t below ok is))
    unfolding guard ◌>>◌ region_of
    packed_answer is h =
        let i = tile_inside (packed_tiles k t below ok) (in_packed_lem k t below ok h) in
        packed_call is ∙ rw (below_range h) (inside-done ws message_bytes t.mark _ 0 (width t.mark) _ (omega arith) (omega arith))

    packed_refusal : (is : List ℕ) → (Below is (dimensions_of t below) → ⊥) → packed_slot ws message_bytes k is ≡ fault not_there 0
    unfolding guard ◌>>◌
    packed_refusal is c = packed_call is ∙ rw (not_in_range (dimensions_of t below) is c)

    -- any indexes
    pub packed_verdict : (is : List ℕ) → Verdict f (in_packed k is) (packed_slot ws message_bytes k is)
    unfolding indexes_of
    packed_verdict is = elim (below_case (dimensions_of t below) is) [
      | inl h ↦ rw (packed_answer is h) (answered (packed_row at ok.kind_is) h (in_packed_lem k t below ok h) (packed_address k t below ok _))
      | inr c ↦ rw (packed_refusal is c) (wrong_indexes (packed_row at ok.kind_is) c)
    ]

  -- ---- a table row

  module _ (k : ℕ) (t s : Token) (members dims : Forest) (at : At 0 f k t (node s members dims)) (ok : IsTable t s members dims) (fits : t.payload + t.extent ≤ message_bytes) where
    -- what its indexes are for
    abbrev ds : List ℕ
    ds = dimensions_of t (node s members dims)

    -- the rows of the table: its own, its schema's, and the members'
    own : row_at ws k ≡ row_of t (suc k + size (node s members dims)) (ancestry at)
    own = row_is at

    schema : row_at ws (suc k) ≡ row_of s (suc (suc k) + size members) (held_by k (ancestry at))
    schema = rowed_own (rows_below at)

    members_rowed : Rowed ws (suc (suc k)) (held_by (suc k) (held_by k (ancestry at))) members
    members_rowed = rowed_under (rows_below at)

    table_mark : (o : Opening) → among ('[' ∷ left_brace ∷ []) (opens o) ≡ true
    unfolding among opens
    table_mark bracket = refl
    table_mark brace = refl

    along_table : along ws is_table (rows_in ws) k ≡ done (suc k + size (node s members dims))
    unfolding is_table
    along_table =
        let z = at_size at in
        let r = rows_fit in
        along-done ws _ (rows_in ws) k _ t _ own (is_a_lem kind_of_table _ first_slowest t _ _ ok.kind_is (rw ok.mark_is (table_mark ok.opening)) (order_most ok.shaped)) (omega arith) (omega arith)

    along_schema : along ws (child_of k is_schema) (suc k + size (node s members dims)) (suc k) ≡ done (suc (suc k) + size members)
    unfolding is_schema size
    along_schema = child_done ws _ k _ (suc k) _ s _ schema (is_one plain_count _ _ ok.schema_is) (omega arith) (omega arith)

    -- the walk to a leaf row
    walk : (leaf_row : ℕ) → Sought (suc (suc k)) members leaf_row (seek ws leaf_row (length ws) (suc k) (suc (suc k)))
    unfolding size is_schema row_of
    walk leaf_row =
        let z = at_size at in
        let e = filled_enough f ws filled in
        seek_law ws leaf_row _ (length ws) (suc k) (suc (suc k)) _ ok.keyed members_rowed (rw schema (is_one plain_count _ _ ok.schema_is)) (ap (λ x. x.link) schema) refl (omega arith)

    -- the walk over its dimensions
    dimensions_are : dimensions ws k (suc (suc k) + size members) ≡ done ds
    unfolding size
    dimensions_are =
        let z = at_size at in
        let r = few_rows in
        dimensions-done ws k _ _ t _ _ own ok.shaped (rowed_later (rows_below at)) (omega arith) (omega arith) ∙ ap done (sym (table_dimensions k t s members dims ok))

    -- what is answered for a leaf, in its field, by the record's number
    answer : Token → Token → ℕ → Outcome Region
    answer field l r =
        when eqb t.mark '[' then inside ws message_bytes l.mark (t.payload + r * s.extent + l.payload) 0 l.extent else
        inside ws message_bytes l.mark (t.payload + t.count * field.payload + r * field.extent + l.payload) field.payload l.extent

    -- the call at a leaf that the walk found
    table_call : {row_of_field leaf_row : ℕ} {field l : Token} (is : List ℕ) → Field (suc (suc k)) members row_of_field field leaf_row l
        → seek ws leaf_row (length ws) (suc k) (suc (suc k)) ≡ done row_of_field
        → table_slot ws message_bytes k leaf_row is
        ≡ (guard (in_range ds is) not_there 0 >> answer field l (number_in t.order ds is))
    unfolding table_slot ◌>>=◌ row_of answer
    table_call {row_of_field} {leaf_row} {field} {l} is x e =
        let two : k + 2 ≡ suc (suc k) = omega arith in
        let a = field_row x in
        let b = field_at x in
        rw (along_table, add-one k, along_schema, two, e, dimensions_are, own, schema, (rowed_at members_rowed a.1).1, (rowed_at members_rowed b.1).1)

    -- where the formulas say
    answer-done : (o : Opening) → t.mark ≡ opens o → (field l : Token) (r : ℕ) → field.payload ≤ l.payload
        → t.payload + formula_of o t.count s.extent field l r + l.extent ≤ message_bytes
        → answer field l r ≡ done (record { mark = l.mark; first = t.payload + formula_of o t.count s.extent field l r; wide = l.extent })
    unfolding answer when◌then◌else◌ opens
    answer-done bracket e field l r h i = rw e (inside-done ws message_bytes l.mark _ 0 l.extent _ (omega arith) i)
    answer-done brace e field l r h i = rw e (inside-done ws message_bytes l.mark _ field.payload l.extent _ (omega arith) i)

    -- ---- any leaf row and indexes

    -- the first member's row
    members_at : member_row k ≡ suc (suc k)
    members_at = omega arith

    -- a row that is no leaf's
    no_leaf : (leaf_row : ℕ) (is : List ℕ) → NoLeaf (suc (suc k)) members leaf_row → seek ws leaf_row (length ws) (suc k) (suc (suc k)) ≡ fault rows_dont_fit 0
        → Verdict f (in_table k leaf_row is) (table_slot ws message_bytes k leaf_row is)
    unfolding table_slot ◌>>=◌ below_first
    no_leaf leaf_row is c e =
        let two : k + 2 ≡ suc (suc k) = omega arith in
        rw (along_table, add-one k, along_schema, two, e)
        (wrong_rows (λ r u v n.
        let y = names_table n in
        let z = y.2 in
        c z.0 z.1 (subst₂ (λ p g. At p (below_first g) leaf_row z.0 z.1) members_at (sym (at_same at y.0).1) z.2) z.3))

    -- a leaf, in its field
    a_leaf : {row_of_field leaf_row : ℕ} {field l : Token} (is : List ℕ) → Field (member_row k) members row_of_field field leaf_row l → l.kind ≡ kind_of_leaf
        → table_slot ws message_bytes k leaf_row is
        ≡ (guard (in_range ds is) not_there 0 >> answer field l (number_in t.order ds is))
        → Verdict f (in_table k leaf_row is) (table_slot ws message_bytes k leaf_row is)
    unfolding guard ◌>>◌ region_of indexes_of below_first
    a_leaf {leaf_row = leaf_row} {field = field} {l = l} is x kind e = elim (below_case ds is) [
      | inl h ↦ (
          let m = in_table_lem k t s members dims ok x kind h in
          let i = tile_inside (table_tiles k t s members dims ok) m in
          let d = answer-done ok.opening ok.mark_is field l (number_in t.order ds is) (field_from ok.offsets x kind) (omega arith) in
          verdict_as (e ∙ rw (below_range h) d) (answered (table_leaf at ok.kind_is (field_at x).1 kind) h m (table_address k t s members dims ok _)))
      | inr c ↦ verdict_as (e ∙ rw (not_in_range ds is c)) (wrong_indexes (table_leaf at ok.kind_is (field_at x).1 kind) c)
    ]

    -- any leaf row and indexes
    pub table_verdict : (leaf_row : ℕ) (is : List ℕ) → Verdict f (in_table k leaf_row is) (table_slot ws message_bytes k leaf_row is)
    table_verdict leaf_row is = go (seek ws leaf_row (length ws) (suc k) (suc (suc k))) refl (walk leaf_row)
      where
        go : (o : Outcome ℕ) → seek ws leaf_row (length ws) (suc k) (suc (suc k)) ≡ o → Sought (suc (suc k)) members leaf_row o
            → Verdict f (in_table k leaf_row is) (table_slot ws message_bytes k leaf_row is)
        go o e (missing c) = no_leaf leaf_row is c e
        go o e (found x kind) = a_leaf is (rw (← members_at) at x) kind (table_call is x e)
