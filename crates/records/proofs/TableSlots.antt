-- A table that was read: its schema, its count, and the slots that its leaves and records have. Assumes nothing.
use Prim.Native.Nat.{ℕ, ◌+◌, ◌≤◌, ◌<◌}
use mathlib.Core.Path.{◌≡◌, refl, sym, ◌∙◌, ap, subst}
use mathlib.Core.Bool.{false}
use mathlib.Core.List.{List, map}
use native.Mathlib.Omega.{arith}
use lib.Dec.{leb, eqb}
use borrow.Author.Tests.{leb-true}
use Rattle.format.specs.Outcome.{Outcome, fault, done, ◌>>=◌, guard}
use Rattle.format.specs.Limits.{limit, record_limit}
use Rattle.format.specs.Refusals.{not_there}
use Rattle.format.specs.Marks.{Opening, bracket, brace, opens, '#'}
use Rattle.format.specs.Tokens.{Token, table as kind_of_table, Forest, none, node, size, ◌⊕◌, below_first}
use Rattle.format.specs.Records.{total_width, placed}
use Rattle.format.specs.Indexes.{below}
use Rattle.format.specs.Storage.{Slot, member_row, leaves, records, slots_of}
use Rattle.format.specs.Bytes.{one_of, reach}
use Rattle.format.specs.Content.{contents}
use Rattle.format.specs.Dimensions.{Shape, shape}
use Rattle.format.specs.Schemas.{table_schema}
use Rattle.format.specs.Containers.{stored, table}
use Rattle.format.specs.Panel.{leaf_rows, pick, slot_for}
use Rattle.format.specs.Answers.{first_and_width}
use Rattle.laws.proofs.Holds.{of_done, guard_law}
use Rattle.laws.proofs.Order.{OfSchema, group_kind_lem}
use Rattle.laws.proofs.Schemas.{Group, grouped, table_schema_gives}
use Rattle.laws.proofs.Slots.{member_width_lem}
use Rattle.columns.proofs.Inverse.{never, done_pair, bind_done, then_done}
use Rattle.storage.proofs.Offsets.{Placed, member_placed, width_placed, offsets_placed}
use Rattle.storage.proofs.Leaves.{field_from}
use Rattle.storage.proofs.Cuts.{formula_of}
use Rattle.panel_laws.proofs.Looked.{table_slots, slot_there, slot_over}
use Rattle.leaf_search.specs.Search.{Spot, in_fields}
use Rattle.records.specs.Slots.{table_of, slot_of, leaf_place}
use Rattle.leaf_search.specs.declared.leaves.Seen.TheVariants.{Left}
use Rattle.records.proofs.Picked.{fields_placed, Picked, there, missing, picked}

-- ---- what was read

pub record TableRead (m : List ℕ) (lent : ℕ) (o : Opening) (at row : ℕ) (token : Token) (under : Forest) : Type 0 where
  pub schema : Forest
  pub from : ℕ
  pub reads : table_schema m lent (at + 2) (row + 1) ≡ done (schema, from)
  pub count : Shape
  pub start : ℕ
  pub told : shape m lent false (from + 1) (row + 1 + size schema) ≡ done (count, start)
  pub few : count.many ≤ limit
  pub narrow : total_width schema ≤ record_limit
  pub kind_is : token.kind ≡ kind_of_table
  pub mark_is : token.mark ≡ opens o
  pub payload_is : token.payload ≡ start
  pub count_is : token.count ≡ count.many
  pub under_is : under ≡ placed 0 schema ⊕ count.dimensions

node_same : {t u : Token} {f g a b : Forest} → node t f a ≡ node u g b → (t ≡ u) × (f ≡ g)
node_same e = (cc, cc)

pub table_read : (m : List ℕ) (lent : ℕ) (o : Opening) (at row next : ℕ) (token : Token) (under : Forest) → table m lent o at row ≡ done (node token under none, next)
    → TableRead m lent o at row token under
unfolding table stored
table_read m lent o at row next token under e =
    let x = bind_done (table_schema m lent (at + 2) (row + 1)) _ e in
    let s = x.0.0 in
    let y = bind_done (one_of m (eqb '#') x.0.1) _ x.2 in
    let z = bind_done (shape m lent false (x.0.1 + 1) (row + 1 + size s)) _ y.2 in
    let n = z.0.0 in
    let a = then_done (guard (leb n.many limit) _ _) _ z.2 in
    let b = then_done (guard (leb (total_width s) record_limit) _ _) _ a.1 in
    let c = then_done (reach m _) _ b.1 in
    let d = node_same (done_pair (then_done (contents m _ _) _ c.1).1).0 in
    let t = d.0 in
    record {
      schema = s;
      from = x.0.1;
      reads = x.1;
      count = n;
      start = z.0.1;
      told = z.1;
      few = leb-true _ _ (of_done {S = Unit {0}} tt (guard_law _ _ _ refl) a.0);
      narrow = leb-true _ _ (of_done {S = Unit {0}} tt (guard_law _ _ _ refl) b.0);
      kind_is = sym (ap (λ (t : Token). t.kind) t);
      mark_is = sym (ap (λ (t : Token). t.mark) t);
      payload_is = sym (ap (λ (t : Token). t.payload) t);
      count_is = sym (ap (λ (t : Token). t.count) t);
      under_is = sym d.1;
    }

-- ---- its slots

module _ {m : List ℕ} {lent : ℕ} {o : Opening} {at row : ℕ} {token : Token} {under : Forest} (x : TableRead m lent o at row token under) where
  -- the members of its schema, at their offsets
  record Fielded : Type 0 where
    fielded : Forest
    is : below_first under ≡ fielded
    offsets : Placed 0 fielded
    wide : total_width fielded ≡ total_width x.schema
    sought : (leaf : ℕ) → in_fields fielded 0 (Left leaf) 0 0 ≡ in_fields (below_first x.schema) 0 (Left leaf) 0 0

  fields : Fielded
  unfolding below_first ◌⊕◌ total_width
  fields = go x.schema refl (of_done (x.schema, x.from) (table_schema_gives m lent (at + 2) (row + 1)) x.reads)
    where
      go : (s : Forest) → s ≡ x.schema → Group brace s → Fielded
      go (node t below none) e (grouped i w u) =
          let k : OfSchema t.kind = rw i.kind_is (group_kind_lem brace) in
          record {
            fielded = placed 0 below;
            is = ap below_first (x.under_is ∙ ap (λ (s : Forest). placed 0 s ⊕ x.count.dimensions) (sym e) ∙ ap (λ (s : Forest). s ⊕ x.count.dimensions) (member_placed 0 t below none k));
            offsets = offsets_placed 0 u;
            wide = width_placed 0 below ∙ sym w ∙ sym (member_width_lem t k) ∙ omega (arith, ap total_width e);
            sought = λ leaf. fields_placed 0 below 0 (Left leaf) 0 0 ∙ ap (λ (s : Forest). in_fields (below_first s) 0 (Left leaf) 0 0) e;
          }
      go none e g = elim g [ ]
      go (node t below (node _ _ _)) e g = elim g [ ]

  rows_are : leaf_rows (table_of row token under) ≡ map (λ (s : Slot ℕ). s.leaf_row) (leaves (member_row row) fields.fielded 0 0)
  unfolding leaf_rows
  rows_are = rw fields.is

  slots_are : slots_of row token under (below token.count) ≡ records o (member_row row) fields.fielded (below x.count.many)
  slots_are = ap (λ (n : ℕ). slots_of row token under (below n)) x.count_is ∙ table_slots row token under fields.fielded o (below x.count.many) x.kind_is x.mark_is fields.is

  -- a leaf and a record that are there, one that isn't
  of_slot : (leaf number leaf_row : ℕ) (s : Slot ℕ) → pick (leaf_rows (table_of row token under)) leaf ≡ done leaf_row
      → slot_for leaf_row number (records o (member_row row) fields.fielded (below x.count.many)) ≡ done s
      → first_and_width (slot_of (table_of row token under) leaf number) ≡ done (x.start + s.offset, s.wide)
  unfolding slot_of first_and_width ◌>>=◌
  of_slot leaf number leaf_row s p q = rw (p, slots_are, q, x.payload_is)

  of_none : (leaf number leaf_row : ℕ) → pick (leaf_rows (table_of row token under)) leaf ≡ done leaf_row
      → slot_for leaf_row number (records o (member_row row) fields.fielded (below x.count.many)) ≡ fault not_there 0
      → first_and_width (slot_of (table_of row token under) leaf number) ≡ fault not_there 0
  unfolding slot_of first_and_width ◌>>=◌
  of_none leaf number leaf_row p q = rw (p, slots_are, q)

  of_missing : (leaf number : ℕ) → pick (leaf_rows (table_of row token under)) leaf ≡ fault not_there 0 → first_and_width (slot_of (table_of row token under) leaf number) ≡ fault not_there 0
  unfolding slot_of first_and_width ◌>>=◌
  of_missing leaf number p = rw p

  pick_of : (leaf : ℕ) {spot : Outcome Spot} → in_fields (below_first x.schema) 0 (Left leaf) 0 0 ≡ spot → Picked (member_row row) fields.fielded (pick (leaf_rows (table_of row token under)) leaf) spot
  pick_of leaf e = rw (rows_are, ← e, ← fields.sought leaf) (picked (member_row row) 0 fields.fielded fields.offsets leaf 0 0)

  -- the formula, in the record's width
  formula_is : (number : ℕ) (u l : Token) → formula_of o x.count.many (total_width fields.fielded) u l number
      ≡ leaf_place o x.count.many number (total_width x.schema) l.payload u.payload u.extent
  formula_is number u l = rw fields.wide (go o)
    where
      go : (o : Opening) → formula_of o x.count.many (total_width x.schema) u l number ≡ leaf_place o x.count.many number (total_width x.schema) l.payload u.payload u.extent
      go bracket = refl
      go brace = refl

  -- what the definition answers where the search finds the leaf at a spot: a record that is there, and one that isn't
  module _ (leaf number : ℕ) where
    pub record SlotAt (sp : Spot) : Type 0 where
      pub behind : sp.field ≤ sp.offset
      pub slot_is : first_and_width (slot_of (table_of row token under) leaf number)
          ≡ done (x.start + leaf_place o x.count.many number (total_width x.schema) sp.offset sp.field sp.span, sp.wide)

    pub slot_found : (sp : Spot) → in_fields (below_first x.schema) 0 (Left leaf) 0 0 ≡ done sp → number < x.count.many → SlotAt sp
    slot_found sp e h = go (pick_of leaf e) refl refl
      where
        go : {a : Outcome ℕ} {b : Outcome Spot} → Picked (member_row row) fields.fielded a b → pick (leaf_rows (table_of row token under)) leaf ≡ a → b ≡ done sp → SlotAt sp
        go (there {leaf_row = leaf_row} {u = u} {l = l} y k) p q =
            let c : record { offset = l.payload; wide = l.extent; field = u.payload; span = u.extent } ≡ sp = cc in
            subst SlotAt c (record {
              behind = field_from fields.offsets y k;
              slot_is = of_slot leaf number leaf_row _ p (slot_there o (member_row row) x.count.many number fields.offsets y k h) ∙ ap (λ (n : ℕ). done (x.start + n, l.extent)) (formula_is number u l);
            })
        go missing p q = absurd (never q)

    pub slot_past : (sp : Spot) → in_fields (below_first x.schema) 0 (Left leaf) 0 0 ≡ done sp → x.count.many ≤ number → first_and_width (slot_of (table_of row token under) leaf number) ≡ fault not_there 0
    slot_past sp e h = go (pick_of leaf e) refl refl
      where
        go : {a : Outcome ℕ} {b : Outcome Spot} → Picked (member_row row) fields.fielded a b → pick (leaf_rows (table_of row token under)) leaf ≡ a → b ≡ done sp
            → first_and_width (slot_of (table_of row token under) leaf number) ≡ fault not_there 0
        go (there {leaf_row = leaf_row} y k) p q = of_none leaf number leaf_row p (slot_over o (member_row row) x.count.many number fields.offsets leaf_row h)
        go missing p q = absurd (never q)

    -- and where it finds none
    pub slot_missing : in_fields (below_first x.schema) 0 (Left leaf) 0 0 ≡ fault not_there 0 → first_and_width (slot_of (table_of row token under) leaf number) ≡ fault not_there 0
    slot_missing e = go (pick_of leaf e) refl refl
      where
        go : {a : Outcome ℕ} {b : Outcome Spot} → Picked (member_row row) fields.fielded a b → pick (leaf_rows (table_of row token under)) leaf ≡ a → b ≡ fault not_there 0
            → first_and_width (slot_of (table_of row token under) leaf number) ≡ fault not_there 0
        go (there y k) p q = absurd (never (sym q))
        go missing p q = of_missing leaf number p
