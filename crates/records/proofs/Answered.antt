-- What the call answers is the slot of the definition: from the walk over the schema, and the count. Assumes nothing.
use Prim.Native.Nat.{ℕ, ◌+◌, ◌≤◌, ◌<◌}
use mathlib.Core.Path.{◌≡◌, refl, sym, ◌∙◌, ap}
use mathlib.Core.Bool.{Bool}
use mathlib.Core.List.{List}
use native.Mathlib.Omega.{arith}
use lib.ListN.{length}
use Rattle.format.specs.Outcome.{fault, done, ◌>>=◌}
use Rattle.format.specs.Limits.{limit}
use Rattle.format.specs.Refusals.{not_there}
use Rattle.format.specs.Marks.{opening_of, brace}
use Rattle.format.specs.Tokens.{Token, Forest, none, node, size, below_first}
use Rattle.format.specs.Schemas.{table_schema}
use Rattle.format.specs.Containers.{table}
use Rattle.format.specs.Answers.{first_and_width}
use Rattle.format.specs.Grammars.{new}
use Rattle.format.specs.Read.{read_whole}
use Rattle.format.specs.Panel.{tables, pick, panel_slot}
use Rattle.laws.proofs.Holds.{of_done}
use Rattle.laws.proofs.Bounds.{schema_bounded}
use Rattle.contents.proofs.Groups.{opened_there}
use Rattle.leaf_search.specs.Search.{spot_of, in_fields}
use Rattle.records.specs.Fields.{FieldsOver, FieldsRead}
use Rattle.records.specs.Counts.{CountOver, CountRead}
use Rattle.records.specs.Slots.{table_of, slot_of, leaf_place}
use Rattle.leaf_search.specs.declared.leaves.Seen.TheVariants.{Left, Found}
use Rattle.records.specs.declared.fields.Fields.{Fields}
use Rattle.records.specs.declared.counts.Count.{Count}
use Rattle.records.proofs.FieldTurns.{fields_opened}
use Rattle.records.proofs.TableSlots.{TableRead, table_read, slot_found, slot_past, slot_missing}

-- the panel's slot is that of the table that it picks
pub panel_slot_lem : (m : List ℕ) (table_number leaf_number record_number : ℕ)
    → panel_slot m table_number leaf_number record_number ≡ (read_whole m new >>= λ f. pick (tables 0 f) table_number >>= λ t. slot_of t leaf_number record_number)
unfolding panel_slot slot_of
panel_slot_lem m table_number leaf_number record_number = refl

module _ (m : List ℕ) (b : Bool) (at lent row next : ℕ) (token : Token) (under : Forest) (accepted : table m lent (opening_of b) at row ≡ done (node token under none, next)) where
  abbrev reads : TableRead m lent (opening_of b) at row token under
  reads = table_read m lent (opening_of b) at row next token under accepted

  -- its schema stands in the message, and there is a row for its count
  pub table_inside : at + 2 < length m
  table_inside = opened_there (fields_opened reads.reads)

  count_row : row + 1 + size reads.schema ≤ lent
  unfolding table_schema
  count_row =
      let i = table_inside in
      let l = (fields_opened reads.reads).row_lent in
      (of_done (reads.schema, reads.from) (schema_bounded m lent 8 brace (at + 2) (row + 1) (omega arith) (omega arith)) reads.reads).lent

  module _ (leaf number : ℕ) (w : Fields) (t : Count) (short : length m ≤ limit) (walked : FieldsRead m (at + 2) leaf w) (counted : CountRead m (w.next + 1) t) where
    schema_over : FieldsOver reads.schema reads.from leaf w
    schema_over = walked lent (row + 1) reads.from reads.schema reads.reads reads.narrow

    count_over : CountOver reads.count reads.start t
    count_over = counted lent (row + 1 + size reads.schema) reads.start reads.count short count_row (rw schema_over.ended reads.told) reads.few

    -- no such leaf
    pub answer_missing : (k : ℕ) → w.seen ≡ Left k → fault not_there 0 ≡ first_and_width (slot_of (table_of row token under) leaf number)
    answer_missing k e = sym (slot_missing reads leaf number (sym schema_over.spot ∙ ap (λ s. spot_of s w.field w.span) e))

    module _ (o v : ℕ) (found : w.seen ≡ Found o v) where
      spotted : in_fields (below_first reads.schema) 0 (Left leaf) 0 0 ≡ done (record { offset = o; wide = v; field = w.field; span = w.span })
      spotted = sym schema_over.spot ∙ ap (λ s. spot_of s w.field w.span) found

      -- no such record
      pub answer_past : t.many ≤ number → fault not_there 0 ≡ first_and_width (slot_of (table_of row token under) leaf number)
      answer_past h = sym (slot_past reads leaf number _ spotted (let e = count_over.times in omega arith))

      -- the slot
      pub answer_found : number < t.many → (p : ℕ) → (w.field ≤ o → p ≡ leaf_place (opening_of b) t.many number w.wide o w.field w.span)
          → done (t.start + p, v) ≡ first_and_width (slot_of (table_of row token under) leaf number)
      answer_found h p k =
          let x = slot_found reads leaf number _ spotted (let e = count_over.times in omega arith) in
          rw (k x.behind, count_over.started, count_over.times, schema_over.total) (sym x.slot_is)
