-- What every reader gives is accepted: its tokens have all that it takes to write them again. Assumes nothing.
use Prim.Native.Nat.{ℕ, zero, suc, ◌+◌, ◌≤◌}
use mathlib.Core.Path.{◌≡◌, refl}
use mathlib.Core.Bool.{Bool, true, false}
use mathlib.Core.List.{List}
use native.Mathlib.Omega.{arith}
use lib.ListN.{length, get_or}
use borrow.Author.Tests.{leb-true, not-true}
use Rattle.format.specs.Grammars.{Grammar}
use Rattle.format.specs.Conditions.{all, among}
use Rattle.format.specs.Outcome.{Outcome, fault, done}
use Rattle.format.specs.Limits.{limit, id_limit, record_limit, value_levels, schema_levels}
use Rattle.format.specs.Marks.{Opening, bracket, brace, integers, types, is_type, is_scalar, is_integer, 'S', 'H'}
use Rattle.format.specs.Tokens.{text as kind_of_text, high_precision}
use Rattle.format.specs.Bytes.{one_of}
use Rattle.format.specs.Integers.{number, integer_to}
use Rattle.format.specs.Content.{content, payload_end}
use Rattle.format.specs.Sequences as Sequences
use Rattle.format.specs.Sequences.{Reader, ◌⨾◌, repeat, until}
use Rattle.format.specs.Scalars as Scalars
use Rattle.format.specs.Dimensions as Dimensions
use Rattle.format.specs.Schemas as Schemas
use Rattle.format.specs.Containers as Containers
use Rattle.format.specs.Extensions as Extensions
use Rattle.format.specs.Read as Read
use Rattle.format.proofs.Tests.{both_true}
use Rattle.format.proofs.MarkFacts.{among_passes}
use Rattle.laws.proofs.Holds as Holds
use Rattle.laws.proofs.Holds.{Holds, refused, holds, bind_law, then_law, if_law, seq_law, other, guard_law, any_law, weaken}
use Rattle.laws.proofs.Schemas.{group_kind, keyed, Members, members_append, OneKind, Gives, key_gives, until_gives, kind_by_gives, nested_gives, table_schema_gives}
use Rattle.laws.proofs.Counts.{Shaped, highest_order, shape_gives}
use Rattle.laws.proofs.Bounds.{byte_is, reach_law, number_law, integer_law}
use Rattle.meaning.proofs.Known.{Content}
use Rattle.meaning.proofs.Accepted.{Sort, value, key, kind, group, dimension, pair, spaced, one, many, items, fields, weight, Accepted, stop, more, both, apart, a_scalar, a_text, a_number, HasId, an_extension, a_key, a_container, a_dimension, a_packed, a_leaf, a_text_leaf, a_kind, a_group, a_table}

-- an answer is what it is
pub self_law : {A : Type 0} (o : Outcome A) → Holds (Unit {0}) (λ a. o ≡ done a) o
self_law (fault n p) = refused λ _. tt
self_law (done a) = holds refl

type_scalar : (mark : ℕ) → is_type mark ≡ true → is_scalar mark ≡ true
unfolding is_type is_scalar types integers all among
type_scalar mark h = among_passes is_scalar types mark refl h

module _ (m : List ℕ) (rows_lent : ℕ) (grammar : Grammar) where
  -- a reader gives one token or more of this sort; or any number
  abbrev Finds : Sort → Reader → Type 0
  Finds s reader = Gives (Accepted m grammar one s) reader

  abbrev FindsMany : Sort → Reader → Type 0
  FindsMany s reader = Gives (Accepted m grammar many s) reader

  -- ---- one after another

  seq_finds : (s t : Sort) (first next : Reader) → Finds s first → Finds t next → Finds (pair s t) (first ⨾ next)
  seq_finds s t first next p q at row = seq_law first next at row (p at row) λ f hf. weaken (λ g hg. both hf hg) (q _ _)

  repeat_finds : (s : Sort) (n : ℕ) (item : Reader) → weight s ≡ 1 → Finds s item → FindsMany s (repeat n item)
  unfolding repeat
  repeat_finds s zero item w p at row = holds stop
  repeat_finds s (suc n) item w p at row = seq_law item _ at row (p at row) λ f hf. weaken (λ g hg. more w hf hg) (repeat_finds s n item w p _ _)

  until_finds : (s : Sort) (fuel : ℕ) (gap : ℕ → ℕ) (closing : ℕ) (item : Reader) → weight s ≡ 1 → Finds s item → FindsMany s (until m fuel gap closing item)
  unfolding until
  until_finds s zero gap closing item w p at row = other refl
  until_finds s (suc fuel) gap closing item w p at row = bind_law (any_law _) λ _ _. if_law _ (λ _. holds stop) λ _.
      seq_law item _ (gap at) row (p (gap at) row) λ f hf. weaken (λ g hg. more w hf hg) (until_finds s fuel gap closing item w p _ _)

  spaced_finds : (s : Sort) (item : Reader) → Finds s item → Finds (spaced s) (Sequences.spaced m item)
  unfolding Sequences.spaced
  spaced_finds s item p at row = weaken (λ _ h. apart h) (p _ row)

  -- ---- scalars, texts and keys

  payload_law : (mark start n : ℕ) → Holds (Unit {0}) (λ _. Content m mark start n) (payload_end m mark start n)
  unfolding payload_end content
  payload_law mark start n = then_law (reach_law m _) λ h. then_law (guard_law _ _ _ refl) λ k. holds (record { inside = h; right = k })

  scalar_finds : (levels mark start : ℕ) → is_scalar mark ≡ true → Finds (value levels) (Scalars.scalar m rows_lent mark start)
  unfolding Scalars.scalar
  scalar_finds levels mark start t at row = then_law (any_law _) λ _. bind_law (payload_law _ _ _) λ _ c. holds (a_scalar levels mark at start t c)

  unmarked_finds : (levels mark : ℕ) → is_type mark ≡ true → Finds (value levels) (Scalars.unmarked m rows_lent mark)
  unfolding Scalars.unmarked
  unmarked_finds levels mark t at row = bind_law (any_law _) λ _ _. scalar_finds levels mark at (type_scalar mark t) at row

  text_finds : (levels : ℕ) → Finds (value levels) (Scalars.text m rows_lent kind_of_text 'S')
  unfolding Scalars.text
  text_finds levels at row = then_law (any_law _) λ _. bind_law (integer_law m _) λ n h. bind_law (payload_law _ _ _) λ _ c.
      holds (a_text levels at n.1 n.0 h.0 c)

  number_finds : (levels : ℕ) → Finds (value levels) (Scalars.text m rows_lent high_precision 'H')
  unfolding Scalars.text
  number_finds levels at row = then_law (any_law _) λ _. bind_law (integer_law m _) λ n h. bind_law (payload_law _ _ _) λ _ c.
      holds (a_number levels at n.1 n.0 h.0 c)

  key_finds : Finds key (Scalars.key m rows_lent)
  unfolding Scalars.key
  key_finds at row = bind_law (any_law _) λ mark _. then_law (any_law _) λ _. bind_law (number_law m _ _ _ _) λ n h. bind_law (payload_law _ _ _) λ _ c.
      holds (a_key at n.1 n.0 h.0 c)

  -- an extension's id
  mark_law : (at : ℕ) → Holds (Unit {0}) (λ mark. (mark ≡ get_or m at 0) × (is_integer mark ≡ true)) (one_of m is_integer at)
  unfolding one_of
  mark_law at = bind_law (byte_is m at) λ mark e. then_law (guard_law _ _ _ refl) λ t. holds (e, t)

  id_law : (at : ℕ) → Holds (Unit {0}) (λ r. HasId m at r.0) (integer_to m id_limit (at + 1))
  unfolding integer_to number
  id_law at = bind_law (mark_law _) λ mark i. let e = i.0 in let q : at + 1 + 1 ≡ at + 2 = omega arith in
      then_law (reach_law m _) λ h. then_law (guard_law _ _ _ refl) λ s. then_law (guard_law _ _ _ refl) λ l.
      holds (record { integer = rw (← e) i.1; inside = rw (← e) (rw q at h); number = rw (← e, q) refl; unsigned = rw (← e) (not-true _ s); low = leb-true _ id_limit l })

  extension_finds : (levels : ℕ) → grammar.extensions ≡ true → Finds (value levels) (Extensions.extension m rows_lent)
  unfolding Extensions.extension
  extension_finds levels g at row = then_law (any_law _) λ _. bind_law (id_law at) λ id i. bind_law (integer_law m _) λ n h. then_law (guard_law _ _ _ refl) λ t. bind_law (payload_law _ _ _) λ _ c.
      holds (an_extension levels id.0 at n.1 n.0 g i h.0 t c)

  -- ---- dimensions

  dimension_finds : (mark start : ℕ) → Finds dimension (Dimensions.dimension m rows_lent mark start)
  unfolding Dimensions.dimension
  dimension_finds mark start at row = then_law (any_law _) λ _. bind_law (number_law m _ _ _ _) λ n h. holds (a_dimension mark at start n.0 h.0)

  marked_finds : Finds dimension (Dimensions.marked m rows_lent)
  unfolding Dimensions.marked
  marked_finds at row = bind_law (any_law _) λ mark _. dimension_finds mark (at + 1) at row

  bare_finds : (mark : ℕ) → Finds dimension (Dimensions.bare m rows_lent mark)
  unfolding Dimensions.bare
  bare_finds mark at row = bind_law (any_law _) λ _ _. dimension_finds mark at at row

  one_each : weight dimension ≡ 1
  unfolding weight
  one_each = refl

  -- one dimension, and then others
  marked_more : (others : Reader) → FindsMany dimension others → FindsMany dimension (Dimensions.marked m rows_lent ⨾ others)
  marked_more others p at row = seq_law (Dimensions.marked m rows_lent) others at row (marked_finds at row) λ f hf.
      weaken (λ g hg. more one_each hf hg) (p _ _)

  listed_finds : (left place : ℕ) → FindsMany dimension (Dimensions.listed m rows_lent left place)
  unfolding Dimensions.listed
  listed_finds zero place at row = other refl
  listed_finds (suc left) place at row = bind_law (any_law _) λ _ _. if_law _ (λ _. holds stop) λ _. marked_more _ (listed_finds left place) at row

  counted_finds : (place : ℕ) (item : Reader) → Finds dimension item → FindsMany dimension (Dimensions.counted m rows_lent place item)
  unfolding Dimensions.counted
  counted_finds place item p at row = bind_law (any_law _) λ n _. then_law (any_law _) λ _. repeat_finds dimension n.0 item one_each p _ _

  vector_finds : (place : ℕ) → FindsMany dimension (Dimensions.vector m rows_lent place)
  unfolding Dimensions.vector Dimensions.counted_bare
  vector_finds place at row = bind_law (any_law _) λ _ _. if_law _ (λ _. other refl) λ _.
      if_law _ (λ _. counted_finds place _ marked_finds _ row) λ _.
      if_law _ (λ _. bind_law (any_law _) λ mark _. bind_law (any_law _) λ _ _. counted_finds place _ (bare_finds mark) _ row) λ _.
      marked_more _ (listed_finds _ place) at row

  dimensions_finds : (may_wrap : Bool) (at row : ℕ) → Holds (Unit {0}) (λ r. Accepted m grammar many dimension r.0.dimensions) (Dimensions.shape m rows_lent may_wrap at row)
  unfolding Dimensions.shape Dimensions.plain Dimensions.slowest Dimensions.fastest Dimensions.shaped
  dimensions_finds may_wrap at row = bind_law (any_law _) λ _ _.
      if_law _ (λ _. bind_law (any_law _) λ _ _. holds stop) λ _.
      bind_law (any_law _) λ _ _. if_law _
      (λ _. bind_law (vector_finds _ _ row) λ _ h. bind_law (any_law _) λ _ _. holds h)
      (λ _. bind_law (vector_finds _ _ row) λ _ h. holds h)

  -- a count and its dimensions
  shape_finds : (may_wrap : Bool) (at row : ℕ)
      → Holds (Unit {0}) (λ r. Shaped (highest_order may_wrap) r.0.order r.0.many r.0.dimensions × Accepted m grammar many dimension r.0.dimensions) (Dimensions.shape m rows_lent may_wrap at row)
  shape_finds may_wrap at row = Holds.both (shape_gives m rows_lent may_wrap at row) (dimensions_finds may_wrap at row)

  -- ---- schemas

  enclosed_finds : (levels : ℕ) (o : Opening) (item : Reader) → weight (fields levels o) ≡ 1 → Gives (Members (keyed o) false) item → Finds (fields levels o) item
      → Finds (group (suc levels) o) (Schemas.enclosed m rows_lent (group_kind o) o item)
  unfolding Schemas.enclosed
  enclosed_finds levels o item w k p at row = bind_law
      (seq_law {P = λ r. Accepted m grammar one (group (suc levels) o) (Schemas.group (group_kind o) o at r.0)} item _ _ _ (Holds.both (k _ _) (p _ _)) λ f hf.
      weaken (λ g hg. a_group levels o at (members_append hf.0 hg.0) hf.1 hg.1)
      (Holds.both (until_gives m rows_lent (keyed o) _ _ _ item k _ _) (until_finds (fields levels o) _ _ _ item w p _ _)))
      λ _ h. holds h

  kind_by_finds : (levels : ℕ) (nested : Opening → Reader) → ((o : Opening) → Finds (group levels o) (nested o)) → Finds (kind levels) (Schemas.kind_by m rows_lent nested)
  unfolding Schemas.kind_by Schemas.plain_leaf Schemas.text_leaf
  kind_by_finds levels nested p at row = bind_law (any_law _) λ mark _.
      if_law _ (λ t. then_law (any_law _) λ _. holds (a_leaf levels mark at t)) λ _.
      if_law _ (λ _. then_law (any_law _) λ _. bind_law (integer_law m _) λ n h. holds (a_text_leaf levels at n.0 h.0)) λ _.
      if_law _ (λ _. other refl) λ _.
      if_law _ (λ _. weaken (λ _ h. a_kind bracket h) (p bracket at row)) λ _.
      if_law _ (λ _. weaken (λ _ h. a_kind brace h) (p brace at row)) λ _. other refl

  kinds : (levels : ℕ) → Gives OneKind (Schemas.kind_by m rows_lent (Schemas.nested m rows_lent levels))
  kinds levels = kind_by_gives m rows_lent _ (nested_gives m rows_lent levels)

  schema_finds : (levels : ℕ) (o : Opening) → Finds (group levels o) (Schemas.nested m rows_lent levels o)
  unfolding Schemas.nested Schemas.group_by Schemas.schema Schemas.fixed weight
  schema_finds zero o at row = other refl
  schema_finds (suc levels) bracket at row = then_law (any_law _) λ _. bind_law (any_law _) λ _ _. then_law (any_law _) λ _.
      enclosed_finds levels bracket _ refl (λ a r. weaken (λ _ h. h false) (kinds levels a r)) (kind_by_finds levels _ (schema_finds levels)) at row
  schema_finds (suc levels) brace at row = then_law (any_law _) λ _.
      enclosed_finds levels brace _ refl (key_gives m rows_lent _ (kinds levels)) (seq_finds key (kind levels) _ _ key_finds (kind_by_finds levels _ (schema_finds levels))) at row

  -- ---- packed arrays and tables

  packed_finds : (levels mark from : ℕ) → is_type mark ≡ true → Finds (value (suc levels)) (Containers.packed m rows_lent mark from)
  unfolding Containers.packed
  packed_finds levels mark from t at row = bind_law (shape_finds true from (row + 1)) λ n s. then_law (guard_law _ _ _ refl) λ u.
      then_law (reach_law m _) λ k. then_law (self_law _) λ c.
      holds (a_packed levels mark at n.1 row n.0 t (record { shaped = s.0; few = leb-true _ limit u }) s.1 (record { inside = k; right = c }))

  table_finds : (levels : ℕ) (o : Opening) → Finds (value (suc levels)) (Containers.table m rows_lent o)
  unfolding Containers.table Schemas.table_schema
  table_finds levels o at row =
      bind_law (Holds.both (schema_finds schema_levels brace (at + 2) (row + 1)) (table_schema_gives m rows_lent (at + 2) (row + 1))) λ s hs.
      bind_law (any_law _) λ _ _. bind_law (shape_finds false _ _) λ n hn.
      then_law (guard_law _ _ _ refl) λ u. then_law (guard_law _ _ _ refl) λ v. then_law (reach_law m _) λ k. then_law (self_law _) λ c.
      holds (a_table levels o at n.1 row n.0 hs.0 hs.1 (leb-true _ record_limit v) (record { shaped = hn.0; few = leb-true _ limit u }) hn.1 (record { inside = k; right = c }))

  -- ---- arrays and objects

  -- an item is one member
  items_count : (levels : ℕ) (o : Opening) → weight (items levels o) ≡ 1
  unfolding weight
  items_count levels bracket = refl
  items_count levels brace = refl

  counted-items_find : (levels : ℕ) (o : Opening) (item : Reader) (from : ℕ) → Finds (items levels o) item
      → Finds (value (suc levels)) (Containers.counted m rows_lent o item from)
  unfolding Containers.counted
  counted-items_find levels o item from p at row = bind_law (any_law _) λ n _.
      bind_law (repeat_finds (items levels o) n.0 item (items_count levels o) p _ _) λ u h. holds (a_container levels o at n.1 u.1 h)

  plain_finds : (levels : ℕ) (o : Opening) (item : Reader) → Finds (items levels o) item → Finds (value (suc levels)) (Containers.plain m rows_lent o item)
  unfolding Containers.plain
  plain_finds levels o item p at row =
      bind_law (until_finds (items levels o) _ _ _ item (items_count levels o) p _ _) λ u h. holds (a_container levels o at (at + 1) u.1 h)

  apart_finds : (s : Sort) (item : Reader) → Finds s item → Finds (spaced s) item
  apart_finds s item p at row = weaken (λ _ h. apart h) (p at row)

  items_find : (levels : ℕ) (o : Opening) (item : Reader) → Finds (value levels) item → Finds (items levels o) (Containers.items m rows_lent o item)
  unfolding Containers.items
  items_find levels bracket item p = apart_finds (value levels) item p
  items_find levels brace item p =
      apart_finds (pair key (spaced (value levels))) _ (seq_finds key (spaced (value levels)) _ _ key_finds (spaced_finds (value levels) item p))

  spaced-items_find : (levels : ℕ) (o : Opening) (item : Reader) → Finds (value levels) item → Finds (items levels o) (Sequences.spaced m (Containers.items m rows_lent o item))
  unfolding Sequences.spaced
  spaced-items_find levels o item p at row = items_find levels o item p _ row

  typed_as_finds : (levels : ℕ) (o : Opening) (type : ℕ) → is_type type ≡ true → Finds (value (suc levels)) (Containers.typed_as m rows_lent o type)
  unfolding Containers.typed_as
  typed_as_finds levels bracket type t at row = packed_finds levels type (at + 4) t at row
  typed_as_finds levels brace type t at row = counted-items_find levels brace _ (at + 4)
      (apart_finds (pair key (spaced (value levels))) _ (seq_finds key (spaced (value levels)) _ _ key_finds (apart_finds (value levels) _ (unmarked_finds levels type t)))) at row

  container_by_finds : (levels : ℕ) (item : Reader) → Finds (value levels) item → (o : Opening) → Finds (value (suc levels)) (Containers.container_by m rows_lent item o)
  unfolding Containers.container_by Containers.typed
  container_by_finds levels item p o at row = then_law (any_law _) λ _. bind_law (any_law _) λ _ _.
      if_law _ (λ _. bind_law (any_law _) λ type _. if_law _ (λ _. table_finds levels o at row) λ _.
      then_law (guard_law _ _ _ refl) λ t. bind_law (any_law _) λ _ _. typed_as_finds levels o type t at row) λ _.
      if_law _ (λ _. counted-items_find levels o _ (at + 2) (spaced-items_find levels o item p) at row) λ _.
      plain_finds levels o _ (items_find levels o item p) at row

  -- ---- values

  value_by_finds : (levels : ℕ) (nested : Opening → Reader) → ((o : Opening) → Finds (value levels) (nested o)) → Finds (value levels) (Read.value_by m rows_lent grammar nested)
  unfolding Read.value_by
  value_by_finds levels nested p at row = bind_law (any_law _) λ mark _.
      if_law _ (λ t. scalar_finds levels mark (at + 1) t at row) λ _.
      if_law _ (λ _. text_finds levels at row) λ _.
      if_law _ (λ _. number_finds levels at row) λ _.
      if_law _ (λ _. p bracket at row) λ _.
      if_law _ (λ _. p brace at row) λ _.
      if_law _ (λ t. extension_finds levels (both_true grammar.extensions _ t).0 at row) λ _. other refl

  nested_finds : (levels : ℕ) (o : Opening) → Finds (value levels) (Read.nested m rows_lent grammar levels o)
  unfolding Read.nested
  nested_finds zero o at row = other refl
  nested_finds (suc levels) o at row = container_by_finds levels _ (value_by_finds levels _ (nested_finds levels)) o at row

  -- the tokens of an accepted message
  pub read_finds : Holds (Unit {0}) (λ f. (length m ≤ limit) × Accepted m grammar one (value value_levels) f) (Read.read m rows_lent grammar)
  unfolding Read.read
  read_finds = then_law (guard_law _ _ _ refl) λ s. bind_law (value_by_finds value_levels _ (nested_finds value_levels) _ _) λ r h.
      then_law (any_law _) λ _. holds (leb-true _ limit s, h)
