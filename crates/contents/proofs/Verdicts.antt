-- A table's schema, its fields, and what its payload's least wrong place says. Assumes nothing.
use Prim.Native.Nat.{ℕ, zero, suc, ◌+◌, ◌-◌, ◌*◌, ◌≤◌, ◌<◌, min}
use mathlib.Core.Path.{◌≡◌, refl, sym, ◌∙◌, ap}
use mathlib.Core.Bool.{true, false}
use mathlib.Core.List.{List}
use native.Mathlib.Omega.{arith}
use native.Mathlib.Nat.{mul-add}
use lib.ListN.{length}
use borrow.Author.Tests.{le-leb, lt-leb}
use Rattle.format.specs.Refusals.{wrong_content}
use Rattle.format.specs.Conditions.{when◌then◌else◌}
use Rattle.format.specs.Outcome.{Outcome, fault, done}
use Rattle.format.specs.Limits.{limit, record_limit}
use Rattle.format.specs.Marks.{Opening, bracket, brace}
use Rattle.format.specs.Tokens.{Token, Forest, none, node, below_first}
use Rattle.format.specs.Records.{member_width, total_width}
use Rattle.format.specs.Indexes.{below}
use Rattle.format.specs.Storage.{records}
use Rattle.format.specs.Content.{contents}
use Rattle.format.specs.Schemas.{leaf, group, plain_leaf, text_leaf, kind_by, nested, table_schema}
use Rattle.format.proofs.Forests.{width_append}
use Rattle.laws.proofs.Holds.{Holds, refused, holds, bind_law, then_law, if_law, other, any_law, of_done}
use Rattle.laws.proofs.Schemas.{group_one, table_schema_gives}
use Rattle.laws.proofs.Slots.{members_measured, below_measured, records_tile, length_count}
use Rattle.columns.specs.Least.{nowhere, farthest, least, in_columns, in_fields}
use Rattle.columns.specs.Walks.{Walks}
use Rattle.contents.specs.Tables.{TableAt, FieldFits, FieldOver, FieldWalks}
use Rattle.columns.specs.declared.Walk.{Walk}
use Rattle.columns.proofs.Tiles.{verdict, contents-least}
use Rattle.columns.proofs.LeafByLeaf.{columns_most, fields_most, least_rows, least_by_columns}
use Rattle.contents.proofs.Members.{alike}
use Rattle.contents.proofs.Groups.{kind_of, Opened, opened, not_nested, group_wide, group_columns, group_below, rest_start, RestOf, Afters, turn, turn_keyed, Turned}

-- ---- a kind is one token, with those below it

pub record Single (f : Forest) : Type 0 where
  pub token : Token
  pub under : Forest
  pub is : f ≡ node token under none

holds_of : {A : Type 0} {P : A → Type 0} (o : Outcome A) → ((a : A) → o ≡ done a → P a) → Holds (Unit {0}) P o
holds_of (fault n p) k = refused λ _. tt
holds_of (done a) k = holds (k a refl)

module _ (m : List ℕ) (lent : ℕ) where
  leaf_single : (mark at w : ℕ) → Single (leaf mark at w)
  unfolding leaf
  leaf_single mark at w = record { token = _; under = none; is = refl }

  nested_single : (levels : ℕ) (o : Opening) (at row : ℕ) → Holds (Unit {0}) (λ r. Single r.0) (nested m lent levels o at row)
  unfolding group
  nested_single zero o at row = holds_of _ (λ a e. absurd (not_nested m lent 0 o at row a.0 a.1 refl e))
  nested_single (suc k) o at row = holds_of _ (λ a e. let x = opened m lent (suc k) k o at row a.0 a.1 refl e in record { token = _; under = x.under; is = x.is })

  pub kind_single : (levels at row : ℕ) → Holds (Unit {0}) (λ r. Single r.0) (kind_of m lent levels at row)
  unfolding kind_by plain_leaf text_leaf
  kind_single levels at row = bind_law (any_law _) λ mark _.
      if_law _ (λ h. then_law (any_law _) λ _. holds (leaf_single mark at _)) λ _.
      if_law _ (λ _. then_law (any_law _) λ _. bind_law (any_law _) λ _ _. holds (leaf_single _ at _)) λ _.
      if_law _ (λ _. other refl) λ _.
      if_law _ (λ _. nested_single levels bracket at row) λ _.
      if_law _ (λ _. nested_single levels brace at row) λ _. other refl

-- the values of one field
single_fields : (m : List ℕ) (n : ℕ) (f : Forest) (place : ℕ) → Single f → in_fields m n f place ≡ in_columns m (total_width f) n f place
unfolding in_fields total_width
single_fields m n f place x = rw x.is (go x.token x.under)
  where
    go : (t : Token) (u : Forest) → in_fields m n (node t u none) place ≡ in_columns m (total_width (node t u none)) n (node t u none) place
    go t u = let k = columns_most m (member_width t) n (node t u none) place in let e : member_width t + 0 ≡ member_width t = omega arith in rw e (omega arith)

-- ---- one field

pub field_first : (m : List ℕ) (n place at best : ℕ) (w : Walk) → Walks m (λ k. kind_of m k 7) at record_limit 0 0 best w
    → (lent row next : ℕ) (f : Forest) → row ≤ lent → kind_of m lent 7 at row ≡ done (f, next) → FieldFits m n place f → w.place ≡ total_width f
field_first m n place at best w k lent row next f l e i =
    let a = i.narrow in
    let o = k lent row next f l e (record { near = omega arith; last = omega arith }) in
    o.onward ∙ omega arith

pub field_taken : {m : List ℕ} {n place : ℕ} {f : Forest} → FieldFits m n place f → n * total_width f ≤ farthest - place
field_taken i = let a = i.inside in let b = i.short in omega arith

pub field_over : (m : List ℕ) (n place at best wide : ℕ) (w : Walk) → Walks m (λ k. kind_of m k 7) at wide n place best w
    → (lent row next : ℕ) (f : Forest) → row ≤ lent → kind_of m lent 7 at row ≡ done (f, next) → FieldFits m n place f → wide ≡ total_width f
    → FieldOver m n place best f next (record { next = w.next; place = place + n * wide; best = w.best })
field_over m n place at best wide w k lent row next f l e i q =
    let a = i.narrow in
    let b = i.inside in
    let c = i.short in
    let near : place + total_width f ≤ farthest = omega arith in
    let last : place + total_width f + n * wide ≤ length m + wide = rw q (omega arith) in
    let o = k lent row next f l e (record { near = near; last = last }) in
    let s = of_done (f, next) (kind_single m lent 7 at row) e in
    record { ended = o.ended; onward = rw q; lowest = o.lowest ∙ rw (q, single_fields m n f place s) }

-- ---- the fields, one after another

pub fields_turned : (m : List ℕ) (lent n : ℕ) {most i place best next place' best' : ℕ}
    (r : RestOf m lent 7 brace (λ f. n * total_width f) (in_fields m n) most i place best next place' best') (from : ℕ) (w : Walk)
    → most ≤ record_limit → n ≤ limit → length m ≤ limit → place' ≤ length m → Afters m true i from → FieldWalks m from n place best w → Turned m lent 7 true r w
fields_turned m lent n {most = most} {place = place} {place' = place'} r from w narrow few short inside after walks =
    let t = turn m lent 7 true r in
    let k = turn_keyed m lent 7 true r from after in
    let a = alike k.unkeyed in
    let e = ap total_width t.is ∙ width_append t.former t.latter in
    let s = ap (λ (x : ℕ). n * x) e ∙ mul-add n (total_width t.former) (total_width t.latter) in
    let p = r.onward in
    let v = r.within in
    let q = a.wide in
    let z = ap (λ (x : ℕ). n * x) q in
    let o = walks lent k.row t.mid k.member k.lent_row k.reads (record { narrow = omega arith; few = few; short = short; inside = omega arith }) in
    record { ended = o.ended; moved = o.onward ∙ rw q; lowered = o.lowest ∙ rw (a.fields m n place) }

-- ---- a table

module _ {m : List ℕ} {schema wide count start lent row next : ℕ} {s : Forest} (t : TableAt m schema wide count start lent row next s) where
  pub table_opened : Opened m lent 7 brace schema row s next
  unfolding table_schema
  table_opened = opened m lent 8 7 brace schema row s next refl t.reads

  table_under : table_opened.under ≡ below_first s
  table_under = sym (ap below_first table_opened.is ∙ group_below brace schema table_opened.under)

  table-wide : total_width (below_first s) ≡ wide
  table-wide = ap total_width (sym table_under) ∙ sym (group_wide brace schema table_opened.under) ∙ ap total_width (sym table_opened.is) ∙ t.width_is

  -- by columns
  pub fields_start : RestOf m lent 7 brace (λ f. count * total_width f) (in_fields m count) wide (schema + 1) start nowhere next (start + count * wide) (in_fields m count (below_first s) start)
  fields_start =
      let e : total_width table_opened.under ≡ wide = ap total_width table_under ∙ table-wide in
      let k = fields_most m count (below_first s) start in
      let j : min nowhere (in_fields m count table_opened.under start) ≡ in_fields m count (below_first s) start = ap (λ (f : Forest). min nowhere (in_fields m count f start)) table_under ∙ omega arith in
      rw (e, j) at (rest_start table_opened (λ f. count * total_width f) (in_fields m count) start nowhere)

  -- by rows
  pub rows_lowest : (w : Walk) → Walks m (λ k. nested m k 8 brace) schema wide count start nowhere w → w.best ≡ in_columns m wide count (below_first s) start
  unfolding table_schema
  rows_lowest w walks =
      let a = t.narrow in
      let b = t.short in
      let c = t.inside in
      let d = t.width_is in
      let l = table_opened.row_lent in
      let o = walks lent row next s (omega arith) t.reads (record { near = omega arith; last = omega arith }) in
      let k = columns_most m wide count (below_first s) start in
      let e : in_columns m wide count s start ≡ in_columns m wide count (below_first s) start =
      ap (λ (f : Forest). in_columns m wide count f start) table_opened.is ∙ group_columns m wide count brace schema table_opened.under start ∙ ap (λ (f : Forest). in_columns m wide count f start) table_under in
      o.lowest ∙ rw e (omega arith)

  -- the least over its slots
  pub table_by_columns : (n : ℕ) → least m start (records brace n (below_first s) (below count)) ≡ in_fields m count (below_first s) start
  table_by_columns n = least_by_columns m start (below count) n (below_first s) ∙ rw (length_count 0 count)

  pub table_by_rows : (n : ℕ) → least m start (records bracket n (below_first s) (below count)) ≡ in_columns m wide count (below_first s) start
  table_by_rows n = least_rows m start (below count) n (below_first s) ∙ rw (length_count 0 count, table-wide)

  -- and what it says
  pub table_verdict : (o : Opening) (n : ℕ) → contents m start (records o n (below_first s) (below count)) ≡ verdict (least m start (records o n (below_first s) (below count)))
  table_verdict o n =
      let g = of_done (s, next) (table_schema_gives m lent schema row) t.reads in
      let b = below_measured (members_measured (group_one g false)) in
      let c = length_count 0 count in
      let d = table-wide in
      let i = t.inside in
      let h = t.short in
      let e : length (below count) * total_width (below_first s) ≡ count * wide = rw (c, d) in
      let f : start + length (below count) * total_width (below_first s) ≤ limit = omega arith in
      contents-least m start f (records_tile o n b (below count))

pub verdict_wrong : (p : ℕ) → p ≤ limit → fault wrong_content p ≡ verdict p
unfolding verdict when◌then◌else◌
verdict_wrong p h = rw (le-leb _ _ h)

pub verdict_right : (p : ℕ) → limit < p → done tt ≡ verdict p
unfolding verdict when◌then◌else◌
verdict_right p h = rw (lt-leb _ _ h)
