-- How reading refuses: with one of 01's numbers, at the place that goes with it. Assumes nothing.
use Prim.Native.Nat.{ℕ, zero, suc, ◌+◌, ◌≤◌, ◌<◌}
use mathlib.Core.Path.{◌≡◌, refl, subst₂}
use mathlib.Core.Bool.{Bool, true, false}
use mathlib.Core.List.{List}
use native.Mathlib.Omega.{arith}
use native.Mathlib.Nat.{mul-le-mul_left}
use lib.ListN.{length, get_or}
use lib.Dec.{leb, eqb}
use borrow.Author.Tests.{ltb-true, leb-true, leb-false, eqb-false}
use Rattle.format.specs.Grammars.{Grammar}
use Rattle.format.specs.Conditions.{when◌then◌else◌}
use Rattle.format.specs.Outcome.{Outcome, fault, done, ◌>>=◌, ◌>>◌, guard}
use Rattle.format.specs.Limits.{limit}
use Rattle.format.specs.Refusals.{message_too_long, bytes_after, not_built}
use Rattle.format.specs.Marks.{Opening, bracket, brace, 'N'}
use Rattle.format.specs.Tokens.{Kind, Forest}
use Rattle.format.specs.Indexes.{below}
use Rattle.format.specs.Storage.{Slot, member_row}
use Rattle.format.specs.Bytes.{reach, byte, one_of, skip}
use Rattle.format.specs.Content.{content, contents, payload_end}
use Rattle.format.specs.Integers.{number, integer_to}
use Rattle.format.specs.Sequences.{Reader, row_left, ◌⨾◌, repeat, until, spaced}
use Rattle.format.specs.Scalars as Scalars
use Rattle.format.specs.Dimensions as Dimensions
use Rattle.format.specs.Schemas as Schemas
use Rattle.format.specs.Containers as Containers
use Rattle.format.specs.Extensions as Extensions
use Rattle.format.specs.Read as Read
use Rattle.format.proofs.Noops.{skip_noop}
use Rattle.laws.specs.Refusal.{Refusal, too_long, early, unallowed, content as content_place, over, integer, deep, rowless, after, unbuilt}
use Rattle.laws.proofs.Holds.{Holds, refused as refused_short, holds}
use Rattle.laws.proofs.Schemas.{group_kind, group_one, table_schema_gives}
use Rattle.laws.proofs.Skips.{skip_on, skip_inside, skip_again}
use Rattle.laws.proofs.Slots.{Inside, nil, slot, inside_widen, elements_inside, records_inside, length_count, members_measured, below_measured, below_narrower}

-- refused with one of 01's numbers, at its place; or P holds of what was read
data Stays {A : Type 0} (m : List ℕ) (P : A → Type 0) : Outcome A → Type 0 where
  refused : {n p : ℕ} → Refusal m n p → Stays m P (fault n p)
  stays : {a : A} → P a → Stays m P (done a)

module _ {A : Type 0} {m : List ℕ} {P : A → Type 0} where
  bind_stays : {B : Type 0} {Q : B → Type 0} {o : Outcome B} {f : B → Outcome A} → Stays m Q o → ((b : B) → Q b → Stays m P (f b)) → Stays m P (o >>= f)
  unfolding ◌>>=◌
  bind_stays (refused n) k = refused n
  bind_stays (stays {a = b} h) k = k b h

  then_stays : {Q : Unit {0} → Type 0} {o : Outcome (Unit {0})} {r : Outcome A} → Stays m Q o → (Q tt → Stays m P r) → Stays m P (o >> r)
  unfolding ◌>>◌
  then_stays (refused n) k = refused n
  then_stays (stays h) k = k h

  if_stays : (b : Bool) {x y : Outcome A} → Stays m P x → Stays m P y → Stays m P (when b then x else y)
  unfolding when◌then◌else◌
  if_stays true f g = f
  if_stays false f g = g

  -- with what else is known of what was read
  also : {S : Type 0} {Q : A → Type 0} {o : Outcome A} → Holds S Q o → Stays m P o → Stays m (λ a. P a × Q a) o
  also (refused_short s) (refused n) = refused n
  also (holds q) (stays h) = stays (h, q)

  weaker : {Q : A → Type 0} {o : Outcome A} → ((a : A) → P a → Q a) → Stays m P o → Stays m Q o
  weaker k (refused n) = refused n
  weaker k (stays {a = a} h) = stays (k a h)

guard_stays : {m : List ℕ} (b : Bool) (n p : ℕ) → Refusal m n p → Stays m (λ _. b ≡ true) (guard b n p)
unfolding guard
guard_stays true n p h = stays refl
guard_stays false n p h = refused h

module _ (m : List ℕ) where
  -- ---- bytes, content and integers

  byte_stays : (at : ℕ) → Stays m (λ _. at < length m) (byte m at)
  unfolding byte
  byte_stays at = then_stays (guard_stays _ _ _ early) λ h. stays (ltb-true at (length m) h)

  reach_stays : (end : ℕ) → Stays m (λ _. end ≤ length m) (reach m end)
  unfolding reach
  reach_stays end = weaker (λ _ h. leb-true end (length m) h) (guard_stays _ _ _ early)

  mark_stays : (allowed : ℕ → Bool) (at : ℕ) → Stays m (λ _. at < length m) (one_of m allowed at)
  unfolding one_of
  mark_stays allowed at = bind_stays (byte_stays at) λ b h. then_stays (guard_stays _ _ _ (unallowed h)) λ _. stays h

  content_stays : (mark start n : ℕ) → start ≤ length m → Stays m (λ _. Unit {0}) (content m mark start n)
  unfolding content
  content_stays mark start n h = weaker (λ _ _. tt) (guard_stays _ _ _ (content_place h))

  contents_stay : (start extent : ℕ) {ss : List (Slot ℕ)} → start + extent ≤ length m → Inside extent ss → Stays m (λ _. Unit {0}) (contents m start ss)
  unfolding contents
  contents_stay start extent h nil = stays tt
  contents_stay start extent h (slot k i) = bind_stays (content_stays _ _ _ (omega arith)) λ _ _. contents_stay start extent h i

  payload_end_stays : (mark start n : ℕ) → Stays m (λ next. next ≤ length m) (payload_end m mark start n)
  unfolding payload_end
  payload_end_stays mark start n = then_stays (reach_stays _) λ h. then_stays (content_stays _ _ _ (omega arith)) λ _. stays h

  number_stays : (highest mark place start : ℕ) → place < length m → Stays m (λ r. r.1 ≤ length m) (number m highest mark place start)
  unfolding number
  number_stays highest mark place start h = then_stays (reach_stays _) λ k.
      then_stays (guard_stays _ _ _ (integer h)) λ _. then_stays (guard_stays _ _ _ (over h)) λ _. stays k

  integer_stays : (highest at : ℕ) → Stays m (λ r. r.1 ≤ length m) (integer_to m highest at)
  unfolding integer_to
  integer_stays highest at = bind_stays (mark_stays _ _) λ mark h. number_stays _ _ _ _ h

  -- ---- readers

  -- what a part answers that looks at its first byte itself, and one whose first byte was looked at
  abbrev Remains : Reader → Type 0
  Remains reader = (at row : ℕ) → at ≤ length m → Stays m (λ r. r.1 ≤ length m) (reader at row)

  abbrev Begun : Reader → Type 0
  Begun reader = (at row : ℕ) → at < length m → Stays m (λ r. r.1 ≤ length m) (reader at row)

  seq_remains : (one other : Reader) → Remains one → Remains other → Remains (one ⨾ other)
  unfolding ◌⨾◌
  seq_remains one other a b at row h = bind_stays (a at row h) λ f hf. bind_stays (b _ _ hf) λ g hg. stays hg

  repeat_remains : (n : ℕ) (item : Reader) → Remains item → Remains (repeat n item)
  unfolding repeat
  repeat_remains zero item a at row h = stays h
  repeat_remains (suc n) item a at row h = seq_remains item (repeat n item) a (repeat_remains n item a) at row h

  -- up to a closing mark, which stands in the message
  until_remains : (fuel : ℕ) (gap : ℕ → ℕ) (closing : ℕ) (item : Reader) → Remains item
      → (at row : ℕ) → Stays m (λ r. r.1 < length m) (until m fuel gap closing item at row)
  unfolding until ◌⨾◌
  until_remains zero gap closing item a at row = refused early
  until_remains (suc fuel) gap closing item a at row = bind_stays (byte_stays _) λ b h. if_stays _ (stays h)
      (bind_stays (a _ _ (omega arith)) λ f hf. bind_stays (until_remains fuel gap closing item a _ _) λ g hg. stays hg)

  spaced_remains : (item : Reader) → Remains item → Remains (spaced m item)
  unfolding spaced
  spaced_remains item a at row h = a _ _ (skip_inside m at h)

  module _ (rows_lent : ℕ) where
    row_stays : (at row : ℕ) → at < length m → Stays m (λ _. Unit {0}) (row_left rows_lent at row)
    unfolding row_left
    row_stays at row h = weaker (λ _ _. tt) (guard_stays _ _ _ (rowless h))

    -- ---- scalars, texts and keys

    scalar_begun : (mark start : ℕ) → Begun (Scalars.scalar m rows_lent mark start)
    unfolding Scalars.scalar
    scalar_begun mark start at row h = then_stays (row_stays at row h) λ _. bind_stays (payload_end_stays _ _ _) λ _ k. stays k

    unmarked_remains : (mark : ℕ) → Remains (Scalars.unmarked m rows_lent mark)
    unfolding Scalars.unmarked
    unmarked_remains mark at row h = bind_stays (byte_stays at) λ _ k. scalar_begun mark at at row k

    text_begun : (kind : Kind) (mark : ℕ) → Begun (Scalars.text m rows_lent kind mark)
    unfolding Scalars.text
    text_begun kind mark at row h = then_stays (row_stays at row h) λ _. bind_stays (integer_stays _ _) λ _ _.
        bind_stays (payload_end_stays _ _ _) λ _ k. stays k

    key_remains : Remains (Scalars.key m rows_lent)
    unfolding Scalars.key
    key_remains at row _ = bind_stays (mark_stays _ _) λ _ h. then_stays (row_stays at row h) λ _. bind_stays (number_stays _ _ _ _ h) λ _ _.
        bind_stays (payload_end_stays _ _ _) λ _ k. stays k

    extension_begun : Begun (Extensions.extension m rows_lent)
    unfolding Extensions.extension
    extension_begun at row h = then_stays (row_stays at row h) λ _. bind_stays (integer_stays _ _) λ _ _. bind_stays (integer_stays _ _) λ _ _.
        then_stays (guard_stays _ _ _ (content_place (omega arith))) λ _. bind_stays (payload_end_stays _ _ _) λ _ k. stays k

    -- ---- dimensions

    dimension_begun : (mark start : ℕ) → Begun (Dimensions.dimension m rows_lent mark start)
    unfolding Dimensions.dimension
    dimension_begun mark start at row h = then_stays (row_stays at row h) λ _. bind_stays (number_stays _ _ _ _ h) λ _ k. stays k

    marked_remains : Remains (Dimensions.marked m rows_lent)
    unfolding Dimensions.marked
    marked_remains at row h = bind_stays (mark_stays _ _) λ mark k. dimension_begun mark (at + 1) at row k

    bare_remains : (mark : ℕ) → Remains (Dimensions.bare m rows_lent mark)
    unfolding Dimensions.bare
    bare_remains mark at row h = bind_stays (byte_stays at) λ _ k. dimension_begun mark at at row k

    module _ (place : ℕ) (inside : place < length m) where
      listed_remains : (left : ℕ) → Remains (Dimensions.listed m rows_lent left place)
      unfolding Dimensions.listed
      listed_remains zero at row h = refused (integer inside)
      listed_remains (suc left) at row h = bind_stays (byte_stays at) λ _ k. if_stays _ (stays (omega arith))
          (seq_remains _ _ marked_remains (listed_remains left) at row h)

      counted_remains : (item : Reader) → Remains item → Remains (Dimensions.counted m rows_lent place item)
      unfolding Dimensions.counted
      counted_remains item a at row h = bind_stays (integer_stays _ _) λ n k. then_stays (guard_stays _ _ _ (integer inside)) λ _. repeat_remains _ item a _ _ k

      vector_remains : Remains (Dimensions.vector m rows_lent place)
      unfolding Dimensions.vector Dimensions.counted_bare
      vector_remains at row h = bind_stays (byte_stays at) λ _ k. if_stays _ (refused (integer inside))
          (if_stays _ (counted_remains _ marked_remains (at + 1) row (omega arith))
          (if_stays _ (bind_stays (mark_stays _ _) λ mark _. bind_stays (mark_stays _ _) λ _ j. counted_remains _ (bare_remains mark) (at + 1 + 2) row (omega arith))
          (seq_remains _ _ marked_remains (listed_remains _) at row h)))

    shape_stays : (may_wrap : Bool) (at row : ℕ) → Stays m (λ r. r.1 ≤ length m) (Dimensions.shape m rows_lent may_wrap at row)
    unfolding Dimensions.shape Dimensions.plain Dimensions.slowest Dimensions.fastest
    shape_stays may_wrap at row = bind_stays (byte_stays at) λ _ h. if_stays _ (bind_stays (integer_stays _ at) λ _ k. stays k)
        (bind_stays (byte_stays (at + 1)) λ _ k. if_stays _
        (bind_stays (vector_remains at h (at + 2) row (omega arith)) λ d _. bind_stays (mark_stays _ d.1) λ _ e. stays (omega arith))
        (bind_stays (vector_remains at h (at + 1) row (omega arith)) λ _ e. stays e))

    -- ---- schemas

    enclosed_begun : (o : Opening) (item : Reader) → Remains item → Begun (Schemas.enclosed m rows_lent (group_kind o) o item)
    unfolding Schemas.enclosed ◌⨾◌
    enclosed_begun o item a at row h = bind_stays {Q = λ r. r.1 < length m}
        (bind_stays (a (at + 1) (row + 1) (omega arith)) λ f _. bind_stays (until_remains _ _ _ item a _ _) λ _ k. stays k) λ _ k. stays (omega arith)

    kind_by_remains : (nested : Opening → Reader) → ((o : Opening) → Begun (nested o)) → Remains (Schemas.kind_by m rows_lent nested)
    unfolding Schemas.kind_by Schemas.plain_leaf Schemas.text_leaf
    kind_by_remains nested a at row _ = bind_stays (byte_stays at) λ _ h.
        if_stays _ (then_stays (row_stays at row h) λ _. stays (omega arith))
        (if_stays _ (then_stays (row_stays at row h) λ _. bind_stays (integer_stays _ _) λ _ j. stays j)
        (if_stays _ (refused (unbuilt h))
        (if_stays _ (a bracket at row h)
        (if_stays _ (a brace at row h) (refused (unallowed h))))))

    schema_begun : (levels : ℕ) (o : Opening) → Begun (Schemas.nested m rows_lent levels o)
    unfolding Schemas.nested Schemas.group_by Schemas.fixed Schemas.schema
    schema_begun zero o at row h = refused (deep h)
    schema_begun (suc levels) bracket at row h = then_stays (row_stays at row h) λ _. bind_stays (byte_stays _) λ _ _.
        then_stays (guard_stays _ _ _ (unbuilt h)) λ _. enclosed_begun bracket _ (kind_by_remains _ (schema_begun levels)) at row h
    schema_begun (suc levels) brace at row h = then_stays (row_stays at row h) λ _.
        enclosed_begun brace _ (seq_remains _ _ key_remains (kind_by_remains _ (schema_begun levels))) at row h

    -- ---- containers

    packed_begun : (mark from : ℕ) → Begun (Containers.packed m rows_lent mark from)
    unfolding Containers.packed
    packed_begun mark from at row h = bind_stays (shape_stays true from (row + 1)) λ n _. then_stays (guard_stays _ _ _ (over h)) λ _.
        then_stays (reach_stays _) λ k.
        then_stays (contents_stay n.1 _ k (rw (length_count 0 n.0.many) at (elements_inside row mark (below n.0.many)))) λ _. stays k

    table_remains : (o : Opening) (at row : ℕ) → at + 2 < length m → Stays m (λ r. r.1 ≤ length m) (Containers.table m rows_lent o at row)
    unfolding Containers.table Schemas.table_schema
    table_remains o at row h =
        bind_stays (also (table_schema_gives m rows_lent (at + 2) (row + 1)) (schema_begun _ brace (at + 2) (row + 1) h)) λ s hs.
        bind_stays (mark_stays _ _) λ _ _. bind_stays (shape_stays false _ _) λ n _.
        then_stays (guard_stays _ _ _ (over (omega arith))) λ _. then_stays (guard_stays _ _ _ (over (omega arith))) λ _.
        then_stays (reach_stays _) λ k.
        let d = members_measured (group_one hs.1 false) in
        then_stays (contents_stay n.1 _ k (inside_widen _ (mul-le-mul_left n.0.many (below_narrower d))
        (rw (length_count 0 n.0.many) at (records_inside o (member_row row) (below_measured d) (below n.0.many))))) λ _. stays k

    counted_items_remain : (o : Opening) (item : Reader) (from at row : ℕ) → Remains item
        → Stays m (λ r. r.1 ≤ length m) (Containers.counted m rows_lent o item from at row)
    unfolding Containers.counted
    counted_items_remain o item from at row a = bind_stays (integer_stays _ _) λ n h. bind_stays (repeat_remains n.0 item a _ _ h) λ _ k. stays k

    plain_remains : (o : Opening) (item : Reader) (at row : ℕ) → Remains item → Stays m (λ r. r.1 ≤ length m) (Containers.plain m rows_lent o item at row)
    unfolding Containers.plain
    plain_remains o item at row a = bind_stays (until_remains _ _ _ item a _ _) λ _ h. stays (omega arith)

    typed_as_begun : (o : Opening) (type : ℕ) → Begun (Containers.typed_as m rows_lent o type)
    unfolding Containers.typed_as
    typed_as_begun bracket type at row h = packed_begun type (at + 4) at row h
    typed_as_begun brace type at row h = counted_items_remain brace _ _ at row (seq_remains _ _ key_remains (unmarked_remains type))

    typed_begun : (o : Opening) → Begun (Containers.typed m rows_lent o)
    unfolding Containers.typed
    typed_begun o at row h = bind_stays (byte_stays _) λ type k. if_stays _ (table_remains o at row k)
        (then_stays (guard_stays _ _ _ (unallowed k)) λ _. bind_stays (mark_stays _ _) λ _ _. typed_as_begun o type at row h)

    items_remain : (o : Opening) (value : Reader) → Remains value → Remains (Containers.items m rows_lent o value)
    unfolding Containers.items
    items_remain bracket value a = a
    items_remain brace value a = seq_remains _ _ key_remains (spaced_remains value a)

    container_by_begun : (value : Reader) → Remains value → (o : Opening) → Begun (Containers.container_by m rows_lent value o)
    unfolding Containers.container_by
    container_by_begun value a o at row h = then_stays (row_stays at row h) λ _. bind_stays (byte_stays _) λ _ _. if_stays _ (typed_begun o at row h)
        (if_stays _ (counted_items_remain o _ _ at row (spaced_remains _ (items_remain o value a)))
        (plain_remains o _ at row (items_remain o value a)))

    -- ---- values

    module _ (grammar : Grammar) where
      value_by_remains : (nested : Opening → Reader) → ((o : Opening) → Begun (nested o)) → Remains (Read.value_by m rows_lent grammar nested)
      unfolding Read.value_by
      value_by_remains nested a at row _ = bind_stays (byte_stays at) λ mark h. if_stays _ (scalar_begun mark (at + 1) at row h)
          (if_stays _ (text_begun _ _ at row h)
          (if_stays _ (text_begun _ _ at row h)
          (if_stays _ (a bracket at row h)
          (if_stays _ (a brace at row h)
          (if_stays _ (extension_begun at row h) (refused (unallowed h)))))))

      nested_begun : (levels : ℕ) (o : Opening) → Begun (Read.nested m rows_lent grammar levels o)
      unfolding Read.nested
      nested_begun zero o at row h = refused (deep h)
      nested_begun (suc levels) o at row h = container_by_begun _ (value_by_remains _ (nested_begun levels)) o at row h

      -- what stands after the value, and how long the message is
      end_stays : (next : ℕ) → next ≤ length m → Stays m (λ _. Unit {0}) (guard (eqb (skip m next) (length m)) bytes_after (skip m next))
      unfolding guard
      end_stays next h = go (eqb (skip m next) (length m)) refl
        where
          go : (b : Bool) → eqb (skip m next) (length m) ≡ b → Stays m (λ _. Unit {0}) (guard b bytes_after (skip m next))
          go true e = stays tt
          go false e =
              let d = eqb-false (skip m next) (length m) e in
              let l : skip m next < length m = omega (arith, skip_inside m next h) in
              let again = skip_again m next in
              let other : get_or m (skip m next) 0 ≡ 'N' → ⊥ = λ q.
              let a = skip_noop m (skip m next) l q in
              let b = skip_on m (skip m next + 1) in
              omega arith in
              refused (after l other)

      length_stays : Stays m (λ _. Unit {0}) (guard (leb (length m) limit) message_too_long 0)
      unfolding guard
      length_stays = go (leb (length m) limit) refl
        where
          go : (b : Bool) → leb (length m) limit ≡ b → Stays m (λ _. Unit {0}) (guard b message_too_long 0)
          go true e = stays tt
          go false e = refused (too_long (leb-false (length m) limit e))

      read_stays : Stays m (λ _. Unit {0}) (Read.read m rows_lent grammar)
      unfolding Read.read
      read_stays = then_stays length_stays λ _.
          bind_stays (value_by_remains _ (nested_begun _) (skip m 0) 0 (skip_inside m 0 (omega arith))) λ r h. then_stays (end_stays r.1 h) λ _. stays tt

      -- A refusal has one of 01's numbers, and the place that goes with it.
      pub fault_placed : (n p : ℕ) → Read.read m rows_lent grammar ≡ fault n p → Refusal m n p
      fault_placed n p e = of_fault read_stays e
        where
          of_fault : {P : Forest → Type 0} {o : Outcome Forest} → Stays m P o → o ≡ fault n p → Refusal m n p
          of_fault (refused {n = n'} {p = p'} h) e = let a : n' ≡ n = cc in let b : p' ≡ p = cc in subst₂ (Refusal m) a b h
          of_fault (stays h) e = let z : ◌≡◌ {A = ℕ} 0 1 = cc in absurd (omega arith)

      -- So the number is at most 13, and the place within the limit.
      pub fault_within : (n p : ℕ) → Read.read m rows_lent grammar ≡ fault n p → (n ≤ not_built) × (p ≤ limit)
      unfolding Read.read guard ◌>>◌
      fault_within n p e = go (leb (length m) limit) refl
        where
          inside : {n p : ℕ} → Refusal m n p → (n ≤ not_built) × (p ≤ length m)
          inside (too_long h) = (omega arith, omega arith)
          inside early = (omega arith, omega arith)
          inside (unallowed h) = (omega arith, omega arith)
          inside (content_place h) = (omega arith, h)
          inside (over h) = (omega arith, omega arith)
          inside (integer h) = (omega arith, omega arith)
          inside (deep h) = (omega arith, omega arith)
          inside (rowless h) = (omega arith, omega arith)
          inside (after h c) = (omega arith, omega arith)
          inside (unbuilt h) = (omega arith, omega arith)

          go : (b : Bool) → leb (length m) limit ≡ b → (n ≤ not_built) × (p ≤ limit)
          go true l = let i = inside (fault_placed n p e) in let k = leb-true (length m) limit l in (i.0, omega arith)
          go false l =
              let q : ◌≡◌ {A = Outcome Forest} (fault message_too_long 0) (fault n p) = rw l at e in
              let a : message_too_long ≡ n = cc in
              let b : 0 ≡ p = cc in
              (omega arith, omega arith)
