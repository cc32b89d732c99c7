-- Two messages read side by side: a relation of two answers that keeps to the rules holds of what every reader answers. Assumes nothing.
use Prim.Native.Nat.{ℕ, zero, suc, ◌+◌, ◌≤◌, ◌<◌}
use mathlib.Core.Path.{◌≡◌, refl, sym, ◌∙◌}
use mathlib.Core.Bool.{Bool, true, false}
use mathlib.Core.List.{List}
use native.Mathlib.Omega.{arith}
use native.Mathlib.Nat.{mul-le-mul_left}
use lib.ListN.{length}
use lib.Dec.{eqb}
use borrow.Author.Tests.{eqb-true}
use Rattle.format.specs.Grammars.{Grammar}
use Rattle.format.specs.Conditions.{when◌then◌else◌}
use Rattle.format.specs.Outcome.{Outcome, fault, done, Parsed, ◌>>=◌}
use Rattle.format.specs.Refusals.{ends_too_early}
use Rattle.format.specs.Marks.{Opening, bracket, brace, is_integer, width, 'E'}
use Rattle.format.specs.Tokens.{Token, Kind, is_kind, Forest, none, node, alone}
use Rattle.format.specs.Records.{placed}
use Rattle.format.specs.Indexes.{below}
use Rattle.format.specs.Storage.{member_row}
use Rattle.format.specs.Bytes.{skip, byte, one_of}
use Rattle.format.specs.Integers.{number, integer_to}
use Rattle.format.specs.Sequences.{Reader, ◌⨾◌, repeat, until, spaced}
use Rattle.format.specs.Scalars as Scalars
use Rattle.format.specs.Dimensions as Dimensions
use Rattle.format.specs.Schemas as Schemas
use Rattle.format.specs.Containers as Containers
use Rattle.format.specs.Extensions as Extensions
use Rattle.format.specs.Read as Read
use Rattle.format.proofs.MarkFacts.{type_wide, integer_wide}
use Rattle.laws.specs.Places.{InSlots, in_own, in_under, in_later}
use Rattle.laws.proofs.Holds.{any_law, weaken}
use Rattle.laws.proofs.Schemas.{group_kind, group_one, table_schema_gives}
use Rattle.laws.proofs.Order.{is_cut, group_kind_lem}
use Rattle.laws.proofs.Counts.{shape_gives}
use Rattle.laws.proofs.Slotless.{Slotless, none_slotless, append_slotless, uncut_slotless, placed_slotless, shaped_slotless}
use Rattle.laws.proofs.Bounds.{Starts, byte_over, byte_starts, one_of_law, container_uncut}
use Rattle.laws.proofs.Slots.{inside_widen, elements_inside, records_inside, length_count, members_measured, below_measured, below_narrower}
use Rattle.laws.proofs.Rules.{Part, header, up_to, whole, Passes, nothing_passes, Relation, Rules}

-- ---- where parts end

lone_passes : (least next : ℕ) (t : Token) → is_cut t.kind ≡ false → least ≤ next → Passes least (alone t, next)
lone_passes least next t k h = record { on = h; cut = λ i c. absurd (uncut_slotless k none_slotless none_slotless i c) }

stored_passes : (kind : Kind) (mark at start extent : ℕ) (n : Dimensions.Shape) (f : Forest) → Slotless f
    → Passes start (Containers.stored kind mark at start extent n f, start + extent)
unfolding Containers.stored
stored_passes kind mark at start extent n f u = record { on = omega arith; cut = go }
  where
    go : (i : ℕ) → InSlots i (node (record { kind = kind; mark = mark; first = at; payload = start; extent = extent; count = n.many; order = n.order }) f none)
        → (start ≤ i) × (i < start + extent)
    go i (in_own k h l) = (h, l)
    go i (in_under c) = absurd (u i c)
    go i (in_later c) = absurd (none_slotless i c)

module _ (m m' : List ℕ) (r r' : ℕ) (g g' : Grammar) (R : Relation) (rules : Rules m m' r r' g g' R) where
  -- what two readers answer from any place on: having passed a byte, or maybe none
  abbrev Begins : Reader → Reader → Type 0
  Begins one one' = (at row : ℕ) → R Part whole at (at + 1) (one at row) (one' at row)

  abbrev Goes : Reader → Reader → Type 0
  Goes one one' = (at row : ℕ) → R Part whole at at (one at row) (one' at row)

  goes : {one one' : Reader} → Begins one one' → Goes one one'
  goes b at row = rules.lower (omega arith) (omega arith) (b at row)

  if_related : {A : Type 0} {part : A → Part} {from least : ℕ} (b : Bool) {x y x' y' : Outcome A}
      → R A part from least x x' → R A part from least y y' → R A part from least (when b then x else y) (when b then x' else y')
  unfolding when◌then◌else◌
  if_related true f g = f
  if_related false f g = g

  seq_begins : {one one' other other' : Reader} → Begins one one' → Goes other other' → Begins (one ⨾ other) (one' ⨾ other')
  seq_begins a b at row = rules.seq (λ next. next) _ _ _ _ at (at + 1) at row (omega arith) (a at row) b

  seq_goes : {one one' other other' : Reader} → Goes one one' → Goes other other' → Goes (one ⨾ other) (one' ⨾ other')
  seq_goes a b at row = rules.seq (λ next. next) _ _ _ _ at at at row (omega arith) (a at row) b

  repeat_goes : (n : ℕ) {item item' : Reader} → Goes item item' → Goes (repeat n item) (repeat n item')
  unfolding repeat
  repeat_goes zero a at row = rules.finish _ (nothing_passes at at (omega arith))
  repeat_goes (suc n) a at row = seq_goes a (repeat_goes n a) at row

  -- ---- bytes, marks and integers, and what follows them

  first_byte : {A : Type 0} {part : A → Part} {k k' : ℕ → Outcome A} (at : ℕ) → ((b : ℕ) → R A part at (at + 1) (k b) (k' b))
      → R A part at (at + 1) (byte m at >>= k) (byte m' at >>= k')
  first_byte at h = rules.look at (at + 1) at (omega arith) (omega arith) λ b _. h b

  second_byte : {A : Type 0} {part : A → Part} {k k' : ℕ → Outcome A} (at : ℕ) → ((b : ℕ) → R A part at (at + 1 + 1) (k b) (k' b))
      → R A part at (at + 1) (byte m (at + 1) >>= k) (byte m' (at + 1) >>= k')
  second_byte at h = rules.lower (omega arith) (omega arith) (rules.look at (at + 1 + 1) (at + 1) (omega arith) (omega arith) λ b _. h b)

  mark_related : (allowed : ℕ → Bool) (at : ℕ) → R ℕ (header (λ _. at + 1)) at (at + 1) (one_of m allowed at) (one_of m' allowed at)
  unfolding one_of
  mark_related allowed at = first_byte at λ b. rules.test _ _ _ λ _.
      rules.finish b (nothing_passes _ _ (omega arith))

  mark_then : {A : Type 0} {part : A → Part} {k k' : ℕ → Outcome A} (allowed : ℕ → Bool) (at : ℕ)
      → ((b : ℕ) → allowed b ≡ true → R A part (at + 1) (at + 1) (k b) (k' b)) → R A part at (at + 1) (one_of m allowed at >>= k) (one_of m' allowed at >>= k')
  mark_then allowed at = rules.rest (λ _. at + 1) at (at + 1) (omega arith) (weaken (λ _ l. l.1) (one_of_law m allowed at)) (mark_related allowed at)

  number_then : {A : Type 0} {part : A → Part} {k k' : ℕ × ℕ → Outcome A} (highest mark place start : ℕ)
      → ((n : ℕ × ℕ) → R A part n.1 n.1 (k n) (k' n))
      → R A part start (start + width mark) (number m highest mark place start >>= k) (number m' highest mark place start >>= k')
  number_then highest mark place start h = rules.rest (λ n. n.1) start (start + width mark) (omega arith) (any_law _) (rules.count highest mark place start) λ n _. h n

  integer_related : (highest at : ℕ) → R (ℕ × ℕ) (header (λ (n : ℕ × ℕ). n.1)) at (at + 1) (integer_to m highest at) (integer_to m' highest at)
  unfolding integer_to
  integer_related highest at = mark_then is_integer at λ mark _. rules.lower (omega arith) (omega arith) (rules.count _ mark at (at + 1))

  integer_then : {A : Type 0} {part : A → Part} {k k' : ℕ × ℕ → Outcome A} (highest at : ℕ) → ((n : ℕ × ℕ) → R A part n.1 n.1 (k n) (k' n))
      → R A part at (at + 1) (integer_to m highest at >>= k) (integer_to m' highest at >>= k')
  integer_then highest at h = rules.rest (λ n. n.1) at (at + 1) (omega arith) (any_law _) (integer_related highest at) λ n _. h n

  -- ---- scalars, texts and keys

  scalar_related : (mark start at row from least : ℕ) → least ≤ start + width mark
      → R Part whole from least (Scalars.scalar m r mark start at row) (Scalars.scalar m' r' mark start at row)
  unfolding Scalars.scalar is_cut is_kind
  scalar_related mark start at row from least h = rules.row_left_lem at row (rules.payload mark start (width mark) λ next e.
      rules.finish _ (lone_passes least next _ refl (omega arith)))

  unmarked_begins : (mark : ℕ) → 0 < width mark → Begins (Scalars.unmarked m r mark) (Scalars.unmarked m' r' mark)
  unfolding Scalars.unmarked
  unmarked_begins mark w at row = first_byte at λ _. scalar_related mark at at row at (at + 1) (omega arith)

  text_begins : (kind : Kind) (mark : ℕ) → is_cut kind ≡ false → Begins (Scalars.text m r kind mark) (Scalars.text m' r' kind mark)
  unfolding Scalars.text
  text_begins kind mark c at row = rules.row_left_lem at row (rules.lower (omega arith) (omega arith) (integer_then _ (at + 1) λ n.
      rules.payload mark n.1 n.0 λ next e. rules.finish _ (lone_passes _ next _ c (omega arith))))

  key_begins : Begins (Scalars.key m r) (Scalars.key m' r')
  unfolding Scalars.key is_cut is_kind
  key_begins at row = mark_then is_integer at λ mark _. rules.row_left_lem at row (rules.lower (omega arith) (omega arith)
      (number_then _ mark at (at + 1) λ n. rules.payload _ n.1 n.0 λ next e. rules.finish _ (lone_passes _ next _ refl (omega arith))))

  extension_begins : Begins (Extensions.extension m r) (Extensions.extension m' r')
  unfolding Extensions.extension is_cut is_kind
  extension_begins at row = rules.row_left_lem at row (rules.lower (omega arith) (omega arith) (integer_then _ (at + 1) λ id.
      rules.lower (omega arith) (omega arith) (integer_then _ id.1 λ n. rules.test _ _ _ λ _. rules.payload _ n.1 n.0 λ next e.
      rules.finish _ (lone_passes _ next _ refl (omega arith)))))

  -- ---- dimensions

  dimension_related : (mark start at row : ℕ)
      → R Part whole start (start + width mark) (Dimensions.dimension m r mark start at row) (Dimensions.dimension m' r' mark start at row)
  unfolding Dimensions.dimension is_cut is_kind
  dimension_related mark start at row = rules.row_left_lem at row (number_then _ mark at start λ n. rules.finish _ (lone_passes _ n.1 _ refl (omega arith)))

  marked_begins : Begins (Dimensions.marked m r) (Dimensions.marked m' r')
  unfolding Dimensions.marked
  marked_begins at row = mark_then is_integer at λ mark _. rules.lower (omega arith) (omega arith) (dimension_related mark (at + 1) at row)

  bare_begins : (mark : ℕ) → 0 < width mark → Begins (Dimensions.bare m r mark) (Dimensions.bare m' r' mark)
  unfolding Dimensions.bare
  bare_begins mark w at row = first_byte at λ _.
      rules.lower (omega arith) (omega arith) (dimension_related mark at at row)

  listed_begins : (left place : ℕ) → Begins (Dimensions.listed m r left place) (Dimensions.listed m' r' left place)
  unfolding Dimensions.listed
  listed_begins zero place at row = rules.refuse _ _
  listed_begins (suc left) place at row = first_byte at λ b. if_related _
      (rules.finish _ (nothing_passes _ _ (omega arith)))
      (seq_begins marked_begins (goes (listed_begins left place)) at row)

  counted_begins : (place : ℕ) {item item' : Reader} → Goes item item' → Begins (Dimensions.counted m r place item) (Dimensions.counted m' r' place item')
  unfolding Dimensions.counted
  counted_begins place a at row = integer_then _ at λ n. rules.test _ _ _ λ _. repeat_goes n.0 a n.1 row

  vector_begins : (place : ℕ) → Begins (Dimensions.vector m r place) (Dimensions.vector m' r' place)
  unfolding Dimensions.vector Dimensions.counted_bare
  vector_begins place at row = first_byte at λ b. if_related _ (rules.refuse _ _)
      (if_related _ (rules.lower (omega arith) (omega arith) (counted_begins place (goes marked_begins) (at + 1) row))
      (if_related _ (rules.lower (omega arith) (omega arith) (mark_then is_integer (at + 1) λ mark i.
      rules.lower (omega arith) (omega arith) (mark_then _ (at + 1 + 1) λ _ _.
      rules.lower (omega arith) (omega arith) (counted_begins place (goes (bare_begins mark (integer_wide mark i))) (at + 1 + 2) row))))
      (seq_begins marked_begins (goes (listed_begins _ place)) at row)))

  -- a count: no payload is cut into slots in it
  shape_related : (may_wrap : Bool) (at row : ℕ)
      → R (Dimensions.Shape × ℕ) (header (λ (n : Dimensions.Shape × ℕ). n.1)) at (at + 1) (Dimensions.shape m r may_wrap at row) (Dimensions.shape m' r' may_wrap at row)
  unfolding Dimensions.shape Dimensions.plain Dimensions.slowest Dimensions.fastest
  shape_related may_wrap at row = first_byte at λ b. if_related _
      (integer_then _ at λ n. rules.finish _ (nothing_passes _ _ (omega arith)))
      (second_byte at λ c. if_related _
      (rules.rest (λ (d : Part). d.1) at (at + 1 + 1) (omega arith) (any_law _)
      (rules.lower (omega arith) (omega arith) (rules.headed (vector_begins at (at + 2) row))) λ d _.
      rules.lower (omega arith) (omega arith) (mark_then _ d.1 λ _ _. rules.finish _ (nothing_passes _ _ (omega arith))))
      (rules.rest (λ (d : Part). d.1) at (at + 1 + 1) (omega arith) (any_law _)
      (rules.lower (omega arith) (omega arith) (rules.headed (vector_begins at (at + 1) row))) λ d _.
      rules.finish _ (nothing_passes _ _ (omega arith))))

  -- ---- items up to a closing mark, which is read too, and items with `N` before them

  -- where an item or a closing mark may begin, in both messages
  abbrev Gap : (ℕ → ℕ) → (ℕ → ℕ) → Type 0
  Gap gap gap' = (part : Part → Part) (k k' : ℕ → Parsed Forest) (at : ℕ) → Starts m k → R Part part (gap at) (gap at + 1) (k (gap at)) (k' (gap at))
      → R Part part at (at + 1) (k (gap at)) (k' (gap' at))

  -- fuel for both: enough for the first, and the same if they are as long
  abbrev Fuel : ℕ → ℕ → Type 0
  Fuel n n' = (n ≤ n') × (length m' ≡ length m → n' ≡ n)

  until_related : (n n' : ℕ) (gap gap' : ℕ → ℕ) (closing : ℕ) {item item' : Reader} → Fuel n n' → Gap gap gap' → Begins item item'
      → (at row : ℕ) → R Part (up_to (λ end. end + 1)) at (at + 1) (until m n gap closing item at row) (until m' n' gap' closing item' at row)
  unfolding until
  until_related zero n' gap gap' closing {item} {item'} u g a at row = rules.ended _ λ e. out_of_fuel n' (u.1 e) e
    where
      out_of_fuel : (n' : ℕ) → n' ≡ 0 → length m' ≡ length m → until m' n' gap' closing item' at row ≡ fault ends_too_early (length m)
      out_of_fuel zero z e = rw e
      out_of_fuel (suc n') z e = absurd (omega arith)
  until_related (suc n) zero gap gap' closing u g a at row = absurd (omega arith)
  until_related (suc n) (suc n') gap gap' closing {item} {item'} u g a at row =
      let less : Fuel n n' = (omega arith, λ e. let q = u.1 e in omega arith) in
      g (up_to (λ end. end + 1))
      (λ p. byte m p >>= (λ b. when eqb b closing then done (none, p) else (item ⨾ until m n gap closing item) p row))
      (λ p. byte m' p >>= (λ b. when eqb b closing then done (none, p) else (item' ⨾ until m' n' gap' closing item') p row))
      at (λ p. byte_starts m p _)
      (first_byte (gap at) λ b. if_related _ (rules.finish _ (nothing_passes _ _ (omega arith)))
      (rules.seq (λ end. end + 1) _ _ _ _ (gap at) (gap at + 1) (gap at) row (omega arith) (a (gap at) row) λ next row.
      rules.lower (omega arith) (omega arith) (until_related n n' gap gap' closing less g a next row)))

  spaced_begins : {item item' : Reader} → ((row : ℕ) → Starts m (λ at. item at row)) → Begins item item' → Begins (spaced m item) (spaced m' item')
  unfolding spaced
  spaced_begins {item} {item'} s a at row = rules.skipped (λ p. item p row) (λ p. item' p row) at (s row) (a (skip m at) row)

  -- ---- schemas

  enclosed_related : (o : Opening) {item item' : Reader} → Begins item item'
      → (at row : ℕ) → R Part whole (at + 1) (at + 1 + 1) (Schemas.enclosed m r (group_kind o) o item at row) (Schemas.enclosed m' r' (group_kind o) o item' at row)
  unfolding Schemas.enclosed Schemas.group
  enclosed_related o a at row = rules.over (λ end. end + 1) _ (λ _. (group_kind_lem o).uncut)
      (rules.seq (λ end. end + 1) _ _ _ _ (at + 1) (at + 1 + 1) (at + 1) (row + 1) (omega arith) (a (at + 1) (row + 1)) λ next row.
      rules.lower (omega arith) (omega arith)
      (until_related (length m) (length m') (λ here. here) (λ here. here) _ (rules.longer, λ e. e) (λ _ _ _ _ _ h. h) a next row))

  kind_by_begins : {nested nested' : Opening → Reader} → ((o : Opening) → Begins (nested o) (nested' o))
      → Begins (Schemas.kind_by m r nested) (Schemas.kind_by m' r' nested')
  unfolding Schemas.kind_by Schemas.plain_leaf Schemas.text_leaf Schemas.leaf is_cut is_kind
  kind_by_begins a at row = first_byte at λ mark.
      if_related _ (rules.row_left_lem at row (rules.finish _ (lone_passes _ _ _ refl (omega arith))))
      (if_related _ (rules.row_left_lem at row (rules.lower (omega arith) (omega arith) (integer_then _ (at + 1) λ n.
      rules.finish _ (lone_passes _ _ _ refl (omega arith)))))
      (if_related _ (rules.refuse _ _)
      (if_related _ (a bracket at row)
      (if_related _ (a brace at row) (rules.refuse _ _)))))

  schema_begins : (levels : ℕ) (o : Opening) → Begins (Schemas.nested m r levels o) (Schemas.nested m' r' levels o)
  unfolding Schemas.nested Schemas.group_by Schemas.schema Schemas.fixed
  schema_begins zero o at row = rules.refuse _ _
  schema_begins (suc levels) bracket at row = rules.row_left_lem at row (second_byte at λ b. rules.test _ _ _ λ _.
      rules.lower (omega arith) (omega arith) (enclosed_related bracket (kind_by_begins (schema_begins levels)) at row))
  schema_begins (suc levels) brace at row = rules.row_left_lem at row (rules.lower (omega arith) (omega arith)
      (enclosed_related brace (seq_begins key_begins (goes (kind_by_begins (schema_begins levels)))) at row))

  -- ---- containers

  packed_related : (mark from at row : ℕ) → R Part whole from (from + 1) (Containers.packed m r mark from at row) (Containers.packed m' r' mark from at row)
  unfolding Containers.packed
  packed_related mark from at row =
      rules.rest (λ (n : Dimensions.Shape × ℕ). n.1) from (from + 1) (omega arith) (shape_gives m r true from _) (shape_related true from _) λ n u.
      rules.test _ _ _ λ _. rules.slots n.1 _ (rw (length_count 0 n.0.many) at (elements_inside row mark (below n.0.many)))
      (rules.finish _ (stored_passes _ mark at n.1 _ n.0 _ (shaped_slotless u)))

  table_related : (o : Opening) (at row : ℕ) → R Part whole (at + 2) (at + 2 + 1) (Containers.table m r o at row) (Containers.table m' r' o at row)
  unfolding Containers.table Schemas.table_schema
  table_related o at row =
      rules.rest (λ (s : Part). s.1) (at + 2) (at + 2 + 1) (omega arith) (table_schema_gives m r _ _) (rules.headed (schema_begins _ brace (at + 2) _)) λ s hs.
      rules.lower (omega arith) (omega arith) (mark_then _ s.1 λ _ _.
      rules.rest (λ (n : Dimensions.Shape × ℕ). n.1) (s.1 + 1) (s.1 + 1) (omega arith) (shape_gives m r false _ _)
      (rules.lower (omega arith) (omega arith) (shape_related false (s.1 + 1) _)) λ n u.
      rules.test _ _ _ λ _. rules.test _ _ _ λ _.
      let d = members_measured (group_one hs false) in
      rules.slots n.1 _ (inside_widen _ (mul-le-mul_left n.0.many (below_narrower d))
      (rw (length_count 0 n.0.many) at (records_inside o (member_row row) (below_measured d) (below n.0.many))))
      (rules.finish _ (stored_passes _ _ at n.1 _ n.0 _
      (append_slotless (placed 0 s.0) n.0.dimensions (placed_slotless 0 (group_one hs false)) (shaped_slotless u)))))

  counted_items_related : (o : Opening) (from at row : ℕ) {item item' : Reader} → Goes item item'
      → R Part whole from (from + 1) (Containers.counted m r o item from at row) (Containers.counted m' r' o item' from at row)
  unfolding Containers.counted Containers.container
  counted_items_related o from at row a = integer_then _ from λ n. rules.over (λ end. end) _ (λ _. container_uncut o) (repeat_goes n.0 a n.1 _)

  plain_related : (o : Opening) (at row : ℕ) {item item' : Reader} → Begins item item'
      → R Part whole (at + 1) (at + 1 + 1) (Containers.plain m r o item at row) (Containers.plain m' r' o item' at row)
  unfolding Containers.plain Containers.container
  plain_related o at row a = rules.over (λ end. end + 1) _ (λ _. container_uncut o)
      (until_related (length m) (length m') (skip m) (skip m') _ (rules.longer, λ e. e) (λ part k k'. rules.skipped k k') a (at + 1) _)

  typed_as_related : (o : Opening) (type at row : ℕ) → 0 < width type
      → R Part whole (at + 4) (at + 4 + 1) (Containers.typed_as m r o type at row) (Containers.typed_as m' r' o type at row)
  unfolding Containers.typed_as
  typed_as_related bracket type at row w = packed_related type (at + 4) at row
  typed_as_related brace type at row w = counted_items_related brace (at + 4) at row (seq_goes (goes key_begins) (goes (unmarked_begins type w)))

  typed_related : (o : Opening) (at row : ℕ) → R Part whole (at + 2) (at + 2 + 1) (Containers.typed m r o at row) (Containers.typed m' r' o at row)
  unfolding Containers.typed
  typed_related o at row = first_byte (at + 2) λ type. if_related _ (table_related o at row)
      (rules.test _ _ _ λ t. rules.lower (omega arith) (omega arith) (mark_then _ (at + 3) λ _ _.
      rules.lower (omega arith) (omega arith) (typed_as_related o type at row (type_wide type t))))

  items_begin : (o : Opening) {value value' : Reader} → ((row : ℕ) → Starts m (λ at. value at row)) → Begins value value'
      → Begins (Containers.items m r o value) (Containers.items m' r' o value')
  unfolding Containers.items
  items_begin bracket s a = a
  items_begin brace s a = seq_begins key_begins (goes (spaced_begins s a))

  items_start : (o : Opening) {value : Reader} → ((row : ℕ) → Starts m (λ at. value at row)) → (row : ℕ) → Starts m (λ at. Containers.items m r o value at row)
  unfolding Containers.items Scalars.key one_of ◌⨾◌ ◌>>=◌
  items_start bracket s row at h = s row at h
  items_start brace s row at h = rw (byte_over m at h)

  container_by_begins : {value value' : Reader} → ((row : ℕ) → Starts m (λ at. value at row)) → Begins value value'
      → (o : Opening) → Begins (Containers.container_by m r value o) (Containers.container_by m' r' value' o)
  unfolding Containers.container_by
  container_by_begins s a o at row = rules.row_left_lem at row (second_byte at λ b.
      if_related _ (rules.lower (omega arith) (omega arith) (typed_related o at row))
      (if_related _ (rules.lower (omega arith) (omega arith) (counted_items_related o (at + 2) at row (goes (spaced_begins (items_start o s) (items_begin o s a)))))
      (rules.lower (omega arith) (omega arith) (plain_related o at row (items_begin o s a)))))

  -- ---- values

  value_starts : (nested : Opening → Reader) (row : ℕ) → Starts m (λ at. Read.value_by m r g nested at row)
  unfolding Read.value_by
  value_starts nested row at h = byte_starts m at _ h

  value_by_begins : {nested nested' : Opening → Reader} → ((o : Opening) → Begins (nested o) (nested' o))
      → Begins (Read.value_by m r g nested) (Read.value_by m' r' g' nested')
  unfolding Read.value_by is_cut is_kind
  value_by_begins a at row = rules.look at (at + 1) at (omega arith) (omega arith) λ mark e.
      if_related _ (scalar_related mark (at + 1) at row at (at + 1) (omega arith))
      (if_related _ (text_begins _ _ refl at row)
      (if_related _ (text_begins _ _ refl at row)
      (if_related _ (a bracket at row)
      (if_related _ (a brace at row)
      (rules.extended _ at (λ t. sym e ∙ eqb-true mark 'E' t) (extension_begins at row))))))

  nested_begins : (levels : ℕ) (o : Opening) → Begins (Read.nested m r g levels o) (Read.nested m' r' g' levels o)
  unfolding Read.nested
  nested_begins zero o at row = rules.refuse _ _
  nested_begins (suc levels) o at row = container_by_begins (value_starts _) (value_by_begins (nested_begins levels)) o at row

  -- a value, with any number of `N` before it
  pub value_related : (levels : ℕ) → Begins (spaced m (Read.value_by m r g (Read.nested m r g levels))) (spaced m' (Read.value_by m' r' g' (Read.nested m' r' g' levels)))
  value_related levels = spaced_begins (value_starts _) (value_by_begins (nested_begins levels))
