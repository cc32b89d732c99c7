-- The panel's slot: its first byte and width fit their parts; and what it answers as the message, the table and the leaf are found.
-- Assumes nothing.
use Prim.Native.Nat.{ℕ, zero, suc, ◌+◌, ◌*◌, ◌≤◌, ◌<◌, ◌^◌}
use mathlib.Core.Path.{◌≡◌, refl, sym, ap, subst, ◌∙◌}
use mathlib.Core.Bool.{Bool, true, false, ◌&&◌}
use mathlib.Core.List.{List, [], ◌∷◌}
use mathlib.Core.Logic.{inr}
use native.Mathlib.Omega.{arith}
use lib.ListN.{length}
use lib.Dec.{eqb}
use Rattle.format.specs.Conditions.{when◌then◌else◌}
use Rattle.format.specs.Outcome.{Outcome, fault, done, ◌>>=◌}
use Rattle.format.specs.Tokens.{Token, table as kind_of_table, is_kind, Forest, none, node, below_first}
use Rattle.format.specs.Records.{total_width}
use Rattle.format.specs.Indexes.{below}
use Rattle.format.specs.Storage.{Slot, member_row, slots_of}
use Rattle.format.specs.Addresses.{Region}
use Rattle.format.specs.Answers.{first_and_width}
use Rattle.format.specs.Grammars.{new}
use Rattle.format.specs.Read.{read_whole}
use Rattle.format.specs.Panel.{Table, tables, leaf_rows, pick, slot_for, panel_slot}
use Rattle.format.specs.Limits.{limit}
use Rattle.format.specs.Refusals.{not_there}
use Rattle.format.specs.Marks.{Opening}
use Rattle.format.specs.Containers as Containers
use Rattle.laws.specs.Places.{At}
use Rattle.laws.proofs.Reading.{accepted_short}
use Rattle.laws.proofs.Slots.{Inside, nil, slot, records_inside, length_count, members_measured}
use Rattle.storage.proofs.Stored.{IsTable, Stored, packed_array, record_table}
use Rattle.storage.proofs.Storage.{layout_is}
use Rattle.storage.proofs.MessageSlots.{payload_in_message, is_stored}
use Rattle.panel_laws.proofs.Picks.{table_picked}
use Rattle.panel_laws.proofs.Looked.{Looked, found, nowhere, looked}
use Rattle.seek.specs.Tables.{Found}
use Rattle.records.specs.Slots.{table_of, slot_of, TableHere}
use Rattle.panel.specs.Layout.{slot_parts}

-- a slot that is taken ends by the end of all
taken_inside : (leaf_row number end : ℕ) {ss : List (Slot ℕ)} {s : Slot ℕ} → Inside end ss → slot_for leaf_row number ss ≡ done s → s.offset + s.wide ≤ end
unfolding slot_for when◌then◌else◌
taken_inside leaf_row number end nil e = let z : ◌≡◌ {A = ℕ} 0 1 = cc in absurd (omega arith)
taken_inside leaf_row number end {s = s} (slot {s = x} {ss = ss} h i) e =
    go (eqb x.leaf_row leaf_row && eqb x.element number) (taken_inside leaf_row number end i) e
  where
    go : (b : Bool) → (slot_for leaf_row number ss ≡ done s → s.offset + s.wide ≤ end) → (when b then done x else slot_for leaf_row number ss) ≡ done s → s.offset + s.wide ≤ end
    go true k q = let y : x ≡ s = cc in subst (λ (z : Slot ℕ). z.offset + z.wide ≤ end) y h
    go false k q = k q

-- the slots of a table by record lie inside its payload
table_inside : (row : ℕ) (t s : Token) (members dimensions : Forest) → IsTable t s members dimensions
    → Inside t.extent (slots_of row t (node s members dimensions) (below t.count))
unfolding slots_of is_kind when◌then◌else◌ below_first
table_inside row t s members dimensions ok =
    let w : t.extent ≡ length (below t.count) * total_width members =
    ok.extent_is ∙ rw (ok.width_is, length_count 0 t.count) in
    rw (w, ok.kind_is, ok.mark_is, layout_is ok.opening) (records_inside ok.opening (member_row row) (members_measured ok.keyed) (below t.count))

stored_inside : {t : Token} {under : Forest} (row : ℕ) → t.kind ≡ kind_of_table → Stored t under → Inside t.extent (slots_of row t under (below t.count))
stored_inside row is (packed_array ok) = let z : ◌≡◌ {A = ℕ} 0 1 = cc ok.kind_is in absurd (omega arith)
stored_inside {t} row is (record_table {s = s} {members = members} {dimensions = dimensions} ok) = table_inside row t s members dimensions ok

module _ (m : List ℕ) (f : Forest) (accepted : read_whole m new ≡ done f) (row : ℕ) (t : Token) (under : Forest) (at : At 0 f row t under) (is : t.kind ≡ kind_of_table) where
  -- First byte and width fit.
  slot_fits : (leaf_row number : ℕ) (s : Slot ℕ) → slot_for leaf_row number (slots_of row t under (below t.count)) ≡ done s
      → (t.payload + s.offset < 2 ^ 24) × (s.wide < 2 ^ 32)
  unfolding read_whole
  slot_fits leaf_row number s e =
      let h = taken_inside leaf_row number t.extent (stored_inside row is (is_stored m (length m) new f accepted at (inr is))) e in
      let p = payload_in_message m (length m) new f accepted at (inr is) in
      let l = accepted_short m (length m) new f accepted in
      (omega arith, omega arith)

-- ---- the call

-- where a table is found, one begins
pub table_here : (m : List ℕ) (number : ℕ) (f : Forest) → read_whole m new ≡ done f → (opening : Opening) (first row : ℕ)
    → Found m (tables 0 f) number opening first row → TableHere m opening first
unfolding read_whole
table_here m number f accepted opening first row h =
    record {
      short = accepted_short m (length m) new f accepted;
      lent = length m;
      row = row;
      next = h.end;
      token = h.table.token;
      under = h.table.under;
      read = h.read;
    }

-- what isn't there is 10
pick_refuses : {A : Type 0} (l : List A) (i n p : ℕ) → pick l i ≡ fault n p → n ≡ not_there
unfolding pick
pick_refuses [] i n p e = cc
pick_refuses (a ∷ l) zero n p e = let z : ◌≡◌ {A = ℕ} 0 1 = cc in absurd (omega arith)
pick_refuses (a ∷ l) (suc i) n p e = pick_refuses l i n p e

slot_for_refuses : (leaf_row number n p : ℕ) (ss : List (Slot ℕ)) → slot_for leaf_row number ss ≡ fault n p → n ≡ not_there
slot_for_refuses leaf_row number n p ss e = go (looked leaf_row number ss) e
  where
    go : {o : Outcome (Slot ℕ)} → Looked leaf_row number ss o → o ≡ fault n p → n ≡ not_there
    go (found m q r) e = let z : ◌≡◌ {A = ℕ} 0 1 = cc in absurd (omega arith)
    go (nowhere c) e = cc

module _ (t : Table) (leaf number : ℕ) where
  -- its slots, and where one stands in the message
  abbrev slots : List (Slot ℕ)
  slots = slots_of t.row t.token t.under (below t.token.count)

  abbrev region : Slot ℕ → Region
  region s = record { mark = s.mark; first = t.token.payload + s.offset; wide = s.wide }

  -- the slot that is answered
  record Answered (first wide : ℕ) : Type 0 where
    pub leaf_row : ℕ
    pub slot : Slot ℕ
    pub taken : slot_for leaf_row number slots ≡ done slot
    pub starts : first ≡ t.token.payload + slot.offset
    pub is_wide : wide ≡ slot.wide

  answered : (first wide : ℕ) → done (first, wide) ≡ first_and_width (slot_of t leaf number) → Answered first wide
  unfolding slot_of ◌>>=◌ first_and_width
  answered first wide e = go (pick (leaf_rows t) leaf) e
    where
      in_leaf : (leaf_row : ℕ) (o : Outcome (Slot ℕ)) → slot_for leaf_row number slots ≡ o → done (first, wide) ≡ first_and_width (o >>= λ s. done (region s)) → Answered first wide
      in_leaf leaf_row (fault n p) q e = let z : ◌≡◌ {A = ℕ} 0 1 = cc in absurd (omega arith)
      in_leaf leaf_row (done s) q e =
          let p : ◌≡◌ {A = ℕ × ℕ} (first, wide) (t.token.payload + s.offset, s.wide) = cc in
          record { leaf_row = leaf_row; slot = s; taken = q; starts = ap (λ (x : ℕ × ℕ). x.0) p; is_wide = ap (λ (x : ℕ × ℕ). x.1) p }

      go : (o : Outcome ℕ) → done (first, wide) ≡ first_and_width (o >>= λ leaf_row. slot_for leaf_row number slots >>= λ s. done (region s)) → Answered first wide
      go (fault n p) e = let z : ◌≡◌ {A = ℕ} 0 1 = cc in absurd (omega arith)
      go (done leaf_row) e = in_leaf leaf_row (slot_for leaf_row number slots) refl e

  refused_is : (n p : ℕ) → fault n p ≡ first_and_width (slot_of t leaf number) → n ≡ not_there
  unfolding slot_of ◌>>=◌ first_and_width
  refused_is n p e = go (pick (leaf_rows t) leaf) refl e
    where
      in_leaf : (leaf_row : ℕ) (o : Outcome (Slot ℕ)) → slot_for leaf_row number slots ≡ o → fault n p ≡ first_and_width (o >>= λ s. done (region s)) → n ≡ not_there
      in_leaf leaf_row (fault k q) r e = let z : k ≡ n = cc in let y = slot_for_refuses leaf_row number k q slots r in omega arith
      in_leaf leaf_row (done s) r e = let z : ◌≡◌ {A = ℕ} 0 1 = cc in absurd (omega arith)

      go : (o : Outcome ℕ) → pick (leaf_rows t) leaf ≡ o → fault n p ≡ first_and_width (o >>= λ leaf_row. slot_for leaf_row number slots >>= λ s. done (region s)) → n ≡ not_there
      go (fault k q) r e = let z : k ≡ n = cc in let y = pick_refuses (leaf_rows t) leaf k q r in omega arith
      go (done leaf_row) r e = in_leaf leaf_row (slot_for leaf_row number slots) refl e

module _ (m : List ℕ) (table leaf number : ℕ) where
  -- A refused message answers its own number.
  pub refused_slot : (n p : ℕ) → read_whole m new ≡ fault n p → record { number = n; place = 0; amount = 0 } ≡ slot_parts (first_and_width (panel_slot m table leaf number))
  unfolding panel_slot ◌>>=◌ first_and_width slot_parts
  refused_slot n p e = rw e

  module _ (f : Forest) (accepted : read_whole m new ≡ done f) where
    -- A table that isn't there is 10.
    pub missing_slot : pick (tables 0 f) table ≡ fault not_there 0
        → record { number = not_there; place = 0; amount = 0 } ≡ slot_parts (first_and_width (panel_slot m table leaf number))
    unfolding panel_slot ◌>>=◌ first_and_width slot_parts
    missing_slot e = rw (accepted, e)

    -- A table that is there answers its slot.
    module _ (t : Table) (picked : pick (tables 0 f) table ≡ done t) where
      slot_of_lem : panel_slot m table leaf number ≡ slot_of t leaf number
      unfolding panel_slot slot_of ◌>>=◌
      slot_of_lem = rw (accepted, picked)

      pub refused_leaf : (n p : ℕ) → fault n p ≡ first_and_width (slot_of t leaf number)
          → (n < 2 ^ 8) × (record { number = n; place = 0; amount = 0 } ≡ slot_parts (first_and_width (panel_slot m table leaf number)))
      unfolding slot_parts
      refused_leaf n p e = (omega (arith, refused_is t leaf number n p e), rw (slot_of_lem, ← e))

      pub found_leaf : (first wide : ℕ) → done (first, wide) ≡ first_and_width (slot_of t leaf number)
          → (first < 2 ^ 24) × (wide < 2 ^ 32) × (record { number = 0; place = first; amount = wide } ≡ slot_parts (first_and_width (panel_slot m table leaf number)))
      unfolding slot_parts
      found_leaf first wide e =
          let a = answered t leaf number first wide e in
          let s = table_picked f table t picked in
          let h = slot_fits m f accepted t.row t.token t.under s.found s.is_table a.leaf_row number a.slot a.taken in
          (omega (arith, a.starts), omega (arith, a.is_wide), rw (slot_of_lem, ← e))

    -- What is answered of the table that is read at a place is answered of the table that is found there.
    pub slot_there : (opening : Opening) (first row : ℕ) (h : Found m (tables 0 f) table opening first row) (o : Outcome (ℕ × ℕ))
        → ((lent row next : ℕ) (token : Token) (under : Forest) → length m ≤ limit → Containers.table m lent opening first row ≡ done (node token under none, next)
        → o ≡ first_and_width (slot_of (table_of row token under) leaf number))
        → o ≡ first_and_width (slot_of h.table leaf number)
    unfolding read_whole
    slot_there opening first row h o k =
        k (length m) row h.end h.table.token h.table.under (accepted_short m (length m) new f accepted) h.read
        ∙ ap (λ (r : ℕ). first_and_width (slot_of (table_of r h.table.token h.table.under) leaf number)) (sym h.stands)
