-- The panel's slot is the one that the address call gives on the message's rows. Assumes nothing.
use Prim.Native.Nat.{ℕ, ◌+◌, ◌≤◌, ◌<◌}
use mathlib.Core.Path.{◌≡◌, refl, sym, ◌∙◌, ap}
use mathlib.Core.List.{List, Memᴰ}
use mathlib.Core.Logic.{inr}
use native.Mathlib.Omega.{arith}
use native.Mathlib.Decide.{dec_lt}
use native.Mathlib.Nat.{le_refl}
use lib.ListN.{length}
use Rattle.format.specs.Grammars.{Grammar, new}
use Rattle.format.specs.Outcome.{Outcome, fault, done, number_of, ◌>>=◌}
use Rattle.format.specs.Refusals.{not_allowed, no_row_left}
use Rattle.format.specs.Tokens.{Token, leaf as kind_of_leaf, Forest, node, below_first}
use Rattle.format.specs.Rows.{rows_in}
use Rattle.format.specs.Indexes.{below, indexes, number_in}
use Rattle.format.specs.Storage.{Slot, member_row, records, slots_of, dimensions_of, storage}
use Rattle.format.specs.Addresses.{Region, table_slot}
use Rattle.format.specs.Read.{read, read_whole, read_into, words_after}
use Rattle.format.specs.Panel.{Table, tables, leaf_rows, pick, slot_for, panel_slot}
use Rattle.laws.specs.Places.{At}
use Rattle.laws.proofs.Reading.{more_rows, wider-grammar, rows_enough}
use Rattle.storage.specs.Places.{Field, Filled}
use Rattle.storage.specs.Addresses.{call, region_of}
use Rattle.storage.proofs.Places.{read_fills}
use Rattle.storage.proofs.Numbering.{numbered_length, of_indexes}
use Rattle.storage.proofs.Offsets.{Placed}
use Rattle.storage.proofs.Stored.{IsTable, TableOf, table_of, as_table}
use Rattle.storage.proofs.Cuts.{formula_of}
use Rattle.storage.proofs.Storage.{table_numbered, table_address, in_table_lem}
use Rattle.storage.proofs.MessageSlots.{is_stored}
use Rattle.storage.proofs.Addresses.{slot_answered}
use Rattle.panel_laws.specs.Addressed.{by_address}
use Rattle.panel_laws.proofs.Picks.{pick_member, pick_past, pick_numbered, IsTableAt, IsLeafAt, table_picked, leaf_picked}
use Rattle.panel_laws.proofs.Looked.{table_slots, slot_there, slot_over}

-- ---- a message that is accepted with some rows lent is accepted with rows enough

accepted_whole : (m : List ℕ) (rows_lent : ℕ) (grammar : Grammar) (f : Forest) → read m rows_lent grammar ≡ done f → read_whole m new ≡ done f
unfolding read_whole number_of
accepted_whole m rows_lent grammar f e =
    let e' : read m rows_lent new ≡ done f = wider-grammar m rows_lent grammar new (λ _. refl) (λ q. let z : 0 ≡ not_allowed = rw e at q.0 in absurd (omega arith)) ∙ e in
    elim (dec_lt rows_lent (length m)) [
      | yes h ↦ more_rows m rows_lent new (length m) (omega arith) (λ q. let z : 0 ≡ no_row_left = rw e' at q in absurd (omega arith)) ∙ e'
      | no h ↦ sym (more_rows m (length m) new rows_lent (omega arith) (rows_enough m (length m) new (le_refl (length m)))) ∙ e'
    ]

-- ---- a leaf and a record of a table

-- the region of a slot that was found
abbrev region_in : Token → Outcome (Slot ℕ) → Outcome Region
region_in t o = o >>= λ s. done (record { mark = s.mark; first = t.payload + s.offset; wide = s.wide })

module _ (m : List ℕ) (rows_lent : ℕ) (grammar : Grammar) (f : Forest) (accepted : read m rows_lent grammar ≡ done f) (ws : List ℕ) (filled : Filled f ws) where
  -- what the address call answers for the indexes of a record
  abbrev at_record : ℕ → Token → Forest → ℕ → ℕ → Outcome Region
  at_record row t under leaf_row r = pick (indexes t.order (dimensions_of t under)) r >>= λ is. table_slot ws (length m) row leaf_row is

  module _ (row : ℕ) (t s : Token) (members dims : Forest) (x : At 0 f row t (node s members dims)) (ok : IsTable t s members dims) where
    slots_are : slots_of row t (node s members dims) (below t.count) ≡ records ok.opening (member_row row) members (below t.count)
    unfolding below_first
    slots_are = table_slots row t (node s members dims) members ok.opening (below t.count) ok.kind_is ok.mark_is refl

    -- the call answers the slot that the indexes name
    answered : (leaf_row : ℕ) (is : List ℕ) (slot : Slot (List ℕ)) → slot.leaf_row ≡ leaf_row → slot.element ≡ is → Memᴰ slot (storage row t (node s members dims))
        → table_slot ws (length m) row leaf_row is ≡ done (region_of t slot)
    unfolding call
    answered leaf_row is slot e q i =
        let a = rw (table_address row t s members dims ok slot) at (slot_answered m rows_lent grammar f accepted ws filled x (inr ok.kind_is) i).1 in
        rw (← e, ← q) a

    module _ {row_of_field leaf_row : ℕ} {field l : Token} (y : Field (member_row row) members row_of_field field leaf_row l) (k : l.kind ≡ kind_of_leaf) (r : ℕ) where
      -- a record that is there
      same_there : r < t.count → region_in t (slot_for leaf_row r (slots_of row t (node s members dims) (below t.count))) ≡ at_record row t (node s members dims) leaf_row r
      unfolding region_of ◌>>=◌
      same_there h =
          let i = pick_numbered (table_numbered row t s members dims ok) r (omega arith) in
          let n : number_in t.order (dimensions_of t (node s members dims)) i.one ≡ r = let q = i.numbered in omega arith in
          let g = in_table_lem row t s members dims ok y k (of_indexes t.order (dimensions_of t (node s members dims)) (pick_member _ r i.picked)) in
          rw (slots_are, slot_there ok.opening (member_row row) t.count r ok.offsets y k h, i.picked, answered leaf_row i.one _ refl refl g, n)
          (ap (λ (w : ℕ). done (record { mark = l.mark; first = t.payload + formula_of ok.opening t.count w field l r; wide = l.extent })) (sym ok.width_is))

      -- one that isn't
      same_past : t.count ≤ r → region_in t (slot_for leaf_row r (slots_of row t (node s members dims) (below t.count))) ≡ at_record row t (node s members dims) leaf_row r
      unfolding ◌>>=◌
      same_past h =
          let n = numbered_length (table_numbered row t s members dims ok) in
          rw (slots_are, slot_over ok.opening (member_row row) t.count r ok.offsets leaf_row h, pick_past (indexes t.order (dimensions_of t (node s members dims))) r (omega arith))

      same_record : region_in t (slot_for leaf_row r (slots_of row t (node s members dims) (below t.count))) ≡ at_record row t (node s members dims) leaf_row r
      same_record = elim (dec_lt r t.count) [ yes h ↦ same_there h | no h ↦ same_past (omega arith) ]

  -- ---- a table

  same_leaf : (t : Table) (leaf r : ℕ) → IsTableAt 0 f t
      → (pick (leaf_rows t) leaf >>= λ leaf_row. region_in t.token (slot_for leaf_row r (slots_of t.row t.token t.under (below t.token.count))))
      ≡ (pick (leaf_rows t) leaf >>= λ leaf_row. at_record t.row t.token t.under leaf_row r)
  unfolding ◌>>=◌ below_first
  same_leaf t leaf r x = go (pick (leaf_rows t) leaf) refl
    where
      of_table : {under : Forest} → TableOf t.token under → At 0 f t.row t.token under → (leaf_row : ℕ)
          → (Placed 0 (below_first under) → IsLeafAt (member_row t.row) (below_first under) leaf_row)
          → region_in t.token (slot_for leaf_row r (slots_of t.row t.token under (below t.token.count))) ≡ at_record t.row t.token under leaf_row r
      of_table (table_of {s = s} {members = members} {dims = dims} ok) a leaf_row y =
          let z = y ok.offsets in
          same_record t.row t.token s members dims a ok z.found z.is_leaf r

      go : (o : Outcome ℕ) → pick (leaf_rows t) leaf ≡ o
          → (o >>= λ leaf_row. region_in t.token (slot_for leaf_row r (slots_of t.row t.token t.under (below t.token.count))))
          ≡ (o >>= λ leaf_row. at_record t.row t.token t.under leaf_row r)
      go (fault n p) e = refl
      go (done leaf_row) e = of_table (as_table (is_stored m rows_lent grammar f accepted x.found (inr x.is_table)) x.is_table) x.found leaf_row (λ p. leaf_picked t leaf leaf_row p e)

  same_table : (table_number leaf_number record_number : ℕ) → read_whole m new ≡ done f → panel_slot m table_number leaf_number record_number ≡ by_address m ws f table_number leaf_number record_number
  unfolding panel_slot by_address ◌>>=◌
  same_table table_number leaf_number record_number e = rw e (go (pick (tables 0 f) table_number) refl)
    where
      go : (o : Outcome Table) → pick (tables 0 f) table_number ≡ o
          → (o >>= λ t. pick (leaf_rows t) leaf_number >>= λ leaf_row. region_in t.token (slot_for leaf_row record_number (slots_of t.row t.token t.under (below t.token.count))))
          ≡ (o >>= λ t. pick (leaf_rows t) leaf_number >>= λ leaf_row. at_record t.row t.token t.under leaf_row record_number)
      go (fault n p) q = refl
      go (done t) q = same_leaf t leaf_number record_number (table_picked f table_number t q)

-- ---- a message

-- Of a message that was read into lent words and accepted, with these tokens: the panel's slot, or its refusal, is what the address call
-- answers on the words that reading left.
pub panel_slot_addressed : (m lent : List ℕ) (grammar : Grammar) (f : Forest) → read_into m lent grammar ≡ done f → (table_number leaf_number record_number : ℕ)
    → panel_slot m table_number leaf_number record_number ≡ by_address m (words_after (length lent) (read_into m lent grammar)) f table_number leaf_number record_number
unfolding read_into
panel_slot_addressed m lent grammar f e table_number leaf_number record_number =
    same_table m (rows_in lent) grammar f e (words_after (length lent) (read m (rows_in lent) grammar)) (rw e (read_fills (length lent) f)) table_number leaf_number record_number (accepted_whole m (rows_in lent) grammar f e)
