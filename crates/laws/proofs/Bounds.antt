-- The bounds of every reader. It ends beyond its start and inside the message; its tokens are in message order, no more of them than
-- bytes passed or rows lent; and it refuses for want of rows only where fewer are left than bytes. Assumes nothing.
use Prim.Native.Nat.{ℕ, zero, suc, ◌+◌, ◌≤◌, ◌<◌}
use mathlib.Core.Path.{◌≡◌, refl}
use mathlib.Core.Bool.{Bool, true, false}
use mathlib.Core.List.{List, [], ◌∷◌}
use native.Mathlib.Omega.{arith}
use lib.ListN.{length, get_or}
use lib.Dec.{ltb}
use borrow.Author.Tests.{ltb-true, ltb-false, leb-true, le-ltb}
use Rattle.format.specs.Grammars.{Grammar}
use Rattle.format.specs.Outcome.{Outcome, fault, Parsed, ◌>>=◌, ◌>>◌, guard}
use Rattle.format.specs.Limits.{limit}
use Rattle.format.specs.Refusals.{ends_too_early, no_row_left}
use Rattle.format.specs.Marks.{Opening, bracket, brace, width}
use Rattle.format.specs.Tokens.{Token, Kind, is_kind, Forest, none, node, alone, size, ◌⊕◌}
use Rattle.format.specs.Records.{placed}
use Rattle.format.specs.Storage.{Slot}
use Rattle.format.specs.Bytes.{reach, byte, one_of, skip}
use Rattle.format.specs.Content.{content, contents, payload_end}
use Rattle.format.specs.Integers.{number, integer_to, integer}
use Rattle.format.specs.Sequences.{Reader, row_left, ◌⨾◌, repeat, until, spaced}
use Rattle.format.specs.Scalars as Scalars
use Rattle.format.specs.Dimensions as Dimensions
use Rattle.format.specs.Schemas as Schemas
use Rattle.format.specs.Containers as Containers
use Rattle.format.specs.Extensions as Extensions
use Rattle.format.specs.Read as Read
use Rattle.format.proofs.MarkFacts.{type_wide, integer_wide}
use Rattle.format.proofs.Forests.{size_append}
use Rattle.laws.proofs.Holds.{Holds, refused, holds, bind_law, then_law, if_law, seq_law, other, guard_law, any_law, weaken, relax, both}
use Rattle.laws.proofs.Schemas.{group_kind, group_one, table_schema_gives}
use Rattle.laws.proofs.Skips.{skip_on, skip_inside}
use Rattle.laws.proofs.Order.{is_cut, is_offset, Room, whole, offset, InOrder, nothing, token, order_size, order_widen, order_append, group_kind_lem, order_placed, size-placed}

-- an array's or object's payload isn't cut into slots
pub container_uncut : (o : Opening) → is_cut (Containers.container_kind o) ≡ false
unfolding Containers.container_kind is_cut is_kind
container_uncut bracket = refl
container_uncut brace = refl

-- ---- bytes, content and integers

-- no byte is 2
abbrev pub Starts : List ℕ → {A : Type 0} → (ℕ → Outcome A) → Type 0
Starts m o = (at : ℕ) → length m ≤ at → o at ≡ fault ends_too_early (length m)

pub byte_over : (m : List ℕ) → Starts m (byte m)
unfolding byte guard ◌>>◌
byte_over m at h = rw (le-ltb at (length m) h)

pub byte_starts : (m : List ℕ) {A : Type 0} (at : ℕ) (f : ℕ → Outcome A) → length m ≤ at → (byte m at >>= f) ≡ fault ends_too_early (length m)
unfolding ◌>>=◌
byte_starts m at f h = rw (byte_over m at h)

pub byte_is : (m : List ℕ) (at : ℕ) → Holds (Unit {0}) (λ b. b ≡ get_or m at 0) (byte m at)
unfolding byte
byte_is m at = then_law (any_law _) λ _. holds refl

module _ (m : List ℕ) {S : Type 0} where
  pub byte_law : (at : ℕ) → Holds S (λ _. at < length m) (byte m at)
  unfolding byte
  byte_law at = then_law (guard_law _ _ _ refl) λ h. holds (ltb-true at (length m) h)

  pub reach_law : (end : ℕ) → Holds S (λ _. end ≤ length m) (reach m end)
  unfolding reach
  reach_law end = weaken (λ _ h. leb-true end (length m) h) (guard_law _ _ _ refl)

  pub one_of_law : (allowed : ℕ → Bool) (at : ℕ) → Holds S (λ b. (at < length m) × (allowed b ≡ true)) (one_of m allowed at)
  unfolding one_of
  one_of_law allowed at = bind_law (byte_law at) λ b h. then_law (guard_law _ _ _ refl) λ k. holds (h, k)

  content_law : (mark start n : ℕ) → Holds S (λ _. Unit {0}) (content m mark start n)
  unfolding content
  content_law mark start n = weaken (λ _ _. tt) (guard_law _ _ _ refl)

  contents_law : (start : ℕ) (ss : List (Slot ℕ)) → Holds S (λ _. Unit {0}) (contents m start ss)
  unfolding contents
  contents_law start [] = holds tt
  contents_law start (s ∷ ss) = bind_law (content_law _ _ _) λ _ _. contents_law start ss

  pub payload_end_law : (mark start n : ℕ) → Holds S (λ next. (next ≡ start + n) × (next ≤ length m)) (payload_end m mark start n)
  unfolding payload_end
  payload_end_law mark start n = then_law (reach_law _) λ h. then_law (content_law _ _ _) λ _. holds (refl, h)

  pub number_law : (highest mark place start : ℕ)
      → Holds S (λ r. (r.0 ≤ highest) × ((r.1 ≡ start + width mark) × (r.1 ≤ length m))) (number m highest mark place start)
  unfolding number
  number_law highest mark place start = then_law (reach_law _) λ h. then_law (guard_law _ _ _ refl) λ _. then_law (guard_law _ _ _ refl) λ k.
      holds (leb-true _ highest k, (refl, h))

  pub integer_to_law : (highest at : ℕ) → Holds S (λ r. (r.0 ≤ highest) × ((at < r.1) × (r.1 ≤ length m))) (integer_to m highest at)
  unfolding integer_to
  integer_to_law highest at = bind_law (one_of_law _ _) λ mark h. weaken (λ r s. (s.0, (omega arith, s.1.1))) (number_law _ _ _ _)

  pub integer_law : (at : ℕ) → Holds S (λ r. (r.0 ≤ limit) × ((at < r.1) × (r.1 ≤ length m))) (integer m at)
  integer_law = integer_to_law limit

-- ---- readers

module _ (m : List ℕ) (rows_lent : ℕ) where
  -- fewer rows are left than bytes
  abbrev pub Short : ℕ → ℕ → Type 0
  Short at row = rows_lent + at < length m + row

  -- what was read from a place and a row on: it ends at `least` or later, and inside the message and the rows lent, in message order
  pub record Reads (least at row : ℕ) (r : Forest × ℕ) : Type 0 where
    pub on : least ≤ r.1
    pub inside : r.1 ≤ length m
    pub lent : row + size r.0 ≤ rows_lent
    pub order : InOrder at r.1 r.0

  -- what a reader does where so many bytes and rows are left: it goes on by `gain` bytes at least
  abbrev pub Bounded : ℕ → ℕ → ℕ → Reader → Type 0
  Bounded bytes rows gain reader = (at row : ℕ) → at + bytes ≤ length m → row + rows ≤ rows_lent → Holds (Short at row) (Reads (at + gain) at row) (reader at row)

  pub eased : {reader : Reader} → Bounded 0 0 1 reader → Bounded 0 0 0 reader
  eased b at row h l = weaken (λ r s. record { on = omega arith; inside = s.inside; lent = s.lent; order = s.order }) (b at row h l)

  -- said from an earlier place on
  earlier : {at here least least' row : ℕ} {r : Forest × ℕ} → at ≤ here → least' ≤ least → Reads least here row r → Reads least' at row r
  earlier h k s = record { on = omega arith; inside = s.inside; lent = s.lent; order = order_widen _ _ h (omega arith) s.order }

  later : {at here least least' row : ℕ} {o : Parsed Forest} → at ≤ here → least' ≤ least
      → Holds (Short here row) (Reads least here row) o → Holds (Short at row) (Reads least' at row) o
  later h k b = relax (λ z. omega arith) (weaken (λ _ s. earlier h k s) b)

  -- no token
  blank : {least at row : ℕ} (next : ℕ) → least ≤ next → at ≤ next → next ≤ length m → row ≤ rows_lent → Reads least at row (none, next)
  unfolding size
  blank next h k l r = record { on = h; inside = l; lent = omega arith; order = nothing k }

  -- one part, and then another
  append : {least least' at row : ℕ} {f g : Forest × ℕ} → Reads least at row f → Reads least' f.1 (row + size f.0) g → Reads least at row (f.0 ⊕ g.0, g.1)
  append {f = f} {g = g} s r =
      let x = order_size r.order in
      record { on = omega arith; inside = r.inside; lent = let e = r.lent in omega (arith, size_append f.0 g.0); order = order_append s.order r.order }

  after : {least at row : ℕ} {f : Forest × ℕ} → Reads least at row f → Short f.1 (row + size f.0) → Short at row
  after s z = let x = order_size s.order in omega arith

  pub seq_bounded : (gain : ℕ) (one next : Reader) → Bounded 0 0 gain one → Bounded 0 0 0 next → Bounded 0 0 gain (one ⨾ next)
  seq_bounded gain one next b c at row h l = seq_law one next at row (b at row h l) λ f hf.
      relax (after hf) (weaken (λ g hg. append hf hg) (c _ _ (let x = hf.inside in omega arith) (let x = hf.lent in omega arith)))

  pub repeat_bounded : (n : ℕ) (item : Reader) → Bounded 0 0 0 item → Bounded 0 0 0 (repeat n item)
  unfolding repeat
  repeat_bounded zero item b at row h l = holds (blank at (omega arith) (omega arith) (omega arith) (omega arith))
  repeat_bounded (suc n) item b at row h l = seq_bounded 0 item (repeat n item) b (repeat_bounded n item b) at row h l

  pub row_left_law : (at row : ℕ) → at < length m → Holds (Short at row) (λ _. row < rows_lent) (row_left rows_lent at row)
  unfolding row_left guard
  row_left_law at row h = go (ltb row rows_lent) refl
    where
      go : (b : Bool) → ltb row rows_lent ≡ b → Holds (Short at row) (λ _. row < rows_lent) (guard b no_row_left at)
      go true e = holds (ltb-true row rows_lent e)
      go false e = refused λ _. let k = ltb-false row rows_lent e in omega arith

  -- a token, with those below it
  over : (t : Token) (below : Forest) (mid next row : ℕ) → InOrder (suc t.first) mid below → Room t mid next → next ≤ length m → row + size below < rows_lent
      → Reads (t.first + 1) t.first row (node t below none, next)
  unfolding size
  over t below mid next row u r h l =
      let x = order_size u in
      record { on = omega arith; inside = h; lent = omega arith; order = token mid next (omega arith) u r (nothing (omega arith)) }

  -- a token with nothing below it
  lone : (t : Token) (next row : ℕ) → is_cut t.kind ≡ false → t.first < next → t.first ≤ t.payload → t.payload + t.extent ≤ next → next ≤ length m → row < rows_lent
      → Reads (t.first + 1) t.first row (alone t, next)
  unfolding size
  lone t next row c h k e i l = over t none next next row (nothing h) (whole c (omega arith) k e) i (omega arith)

  -- ---- scalars, texts and keys

  pub scalar_bounded : (mark start at row : ℕ) → at < length m → at ≤ start → at < start + width mark
      → Holds (Short at row) (Reads (at + 1) at row) (Scalars.scalar m rows_lent mark start at row)
  unfolding Scalars.scalar is_cut is_kind
  scalar_bounded mark start at row h k w = then_law (row_left_law at row h) λ l. bind_law (payload_end_law _ _ _ _) λ next s.
      holds (lone _ next row refl (omega arith) k (omega arith) s.1 l)

  pub unmarked_bounded : (mark : ℕ) → 0 < width mark → Bounded 0 0 1 (Scalars.unmarked m rows_lent mark)
  unfolding Scalars.unmarked
  unmarked_bounded mark w at row _ _ = bind_law (byte_law _ _) λ _ h. scalar_bounded mark at at row h (omega arith) (omega arith)

  pub text_bounded : (kind : Kind) (mark : ℕ) → is_cut kind ≡ false → Bounded 1 0 1 (Scalars.text m rows_lent kind mark)
  unfolding Scalars.text
  text_bounded kind mark c at row h _ = then_law (row_left_law at row (omega arith)) λ l. bind_law (integer_law _ _) λ n k. bind_law (payload_end_law _ _ _ _) λ next s.
      holds (lone _ next row c (omega arith) (omega arith) (omega arith) s.1 l)

  pub key_bounded : Bounded 0 0 1 (Scalars.key m rows_lent)
  unfolding Scalars.key is_cut is_kind
  key_bounded at row _ _ = bind_law (one_of_law _ _ _) λ mark h. then_law (row_left_law at row h.0) λ l.
      bind_law (number_law _ _ _ _ _) λ n k. bind_law (payload_end_law _ _ _ _) λ next s.
      holds (lone _ next row refl (omega arith) (omega arith) (omega arith) s.1 l)

  pub extension_bounded : Bounded 1 0 1 (Extensions.extension m rows_lent)
  unfolding Extensions.extension is_cut is_kind
  extension_bounded at row h _ = then_law (row_left_law at row (omega arith)) λ l. bind_law (integer_to_law _ _ _) λ id i. bind_law (integer_law _ _) λ n k.
      then_law (guard_law _ _ _ refl) λ _. bind_law (payload_end_law _ _ _ _) λ next s.
      holds (lone _ next row refl (omega arith) (omega arith) (omega arith) s.1 l)

  -- ---- dimensions

  pub dimension_bounded : (mark start at row : ℕ) → at < length m → at ≤ start → 0 < width mark
      → Holds (Short at row) (Reads (at + 1) at row) (Dimensions.dimension m rows_lent mark start at row)
  unfolding Dimensions.dimension is_cut is_kind
  dimension_bounded mark start at row h k w = then_law (row_left_law at row h) λ l. bind_law (number_law _ _ _ _ _) λ n s.
      holds (lone _ n.1 row refl (omega arith) k (omega arith) s.1.1 l)

  pub marked_bounded : Bounded 0 0 1 (Dimensions.marked m rows_lent)
  unfolding Dimensions.marked
  marked_bounded at row _ _ = bind_law (one_of_law _ _ _) λ mark h. dimension_bounded mark (at + 1) at row h.0 (omega arith) (integer_wide mark h.1)

  pub bare_bounded : (mark : ℕ) → 0 < width mark → Bounded 0 0 1 (Dimensions.bare m rows_lent mark)
  unfolding Dimensions.bare
  bare_bounded mark w at row _ _ = bind_law (byte_law _ _) λ _ h. dimension_bounded mark at at row h (omega arith) w

  pub listed_bounded : (left place : ℕ) → Bounded 0 0 1 (Dimensions.listed m rows_lent left place)
  unfolding Dimensions.listed
  listed_bounded zero place at row _ _ = other refl
  listed_bounded (suc left) place at row h l = bind_law (byte_law _ _) λ b k. if_law _
      (λ _. holds (blank (at + 1) (omega arith) (omega arith) (omega arith) (omega arith)))
      (λ _. seq_bounded 1 _ _ marked_bounded (eased (listed_bounded left place)) at row h l)

  pub counted_bounded : (place : ℕ) (item : Reader) → Bounded 0 0 0 item → Bounded 0 0 1 (Dimensions.counted m rows_lent place item)
  unfolding Dimensions.counted
  counted_bounded place item b at row _ l = bind_law (integer_law _ _) λ n h. then_law (guard_law _ _ _ refl) λ _.
      later (omega arith) (omega arith) (repeat_bounded n.0 item b n.1 row (omega arith) l)

  pub vector_bounded : (place : ℕ) → Bounded 0 0 1 (Dimensions.vector m rows_lent place)
  unfolding Dimensions.vector Dimensions.counted_bare
  vector_bounded place at row h l = bind_law (byte_law _ _) λ b k. if_law _ (λ _. other refl) λ _.
      if_law _ (λ _. later (omega arith) (omega arith) (counted_bounded place _ (eased marked_bounded) (at + 1) row (omega arith) l)) λ _.
      if_law _ (λ _. bind_law (one_of_law _ _ _) λ mark i. bind_law (one_of_law _ _ _) λ _ j.
      later (omega arith) (omega arith)
      (counted_bounded place _ (eased (bare_bounded mark (integer_wide mark i.1))) (at + 1 + 2) row (omega arith) l)) λ _.
      seq_bounded 1 _ _ marked_bounded (eased (listed_bounded _ place)) at row h l

  -- a count: its dimensions, and where it ends
  pub shape_bounded : (may_wrap : Bool) (at row : ℕ) → row ≤ rows_lent
      → Holds (Short at row) (λ r. Reads (at + 1) at row (r.0.dimensions, r.1)) (Dimensions.shape m rows_lent may_wrap at row)
  unfolding Dimensions.shape Dimensions.plain Dimensions.slowest Dimensions.fastest Dimensions.shaped
  shape_bounded may_wrap at row l = bind_law (byte_law _ _) λ b h. if_law _
      (λ _. bind_law (integer_law _ _) λ n s. holds (blank n.1 (omega arith) (omega arith) s.1.1 l))
      (λ _. bind_law (byte_law _ _) λ c k. if_law _
      (λ _. bind_law (later {least' = at + 1} (omega arith) (omega arith) (vector_bounded at (at + 2) row (omega arith) (omega arith))) λ d s. bind_law (one_of_law _ _ _) λ _ e.
      holds (record { on = omega arith; inside = omega arith; lent = s.lent; order = order_widen at _ (omega arith) (omega arith) s.order }))
      (λ _. bind_law (later {least' = at + 1} (omega arith) (omega arith) (vector_bounded at (at + 1) row (omega arith) (omega arith))) λ d s. holds s))

  -- ---- items up to a closing mark, which stands in the message

  pub until_bounded : (fuel : ℕ) (gap : ℕ → ℕ) (closing : ℕ) (item : Reader) → ((a : ℕ) → a ≤ gap a) → Bounded 0 0 0 item
      → (at row : ℕ) → row ≤ rows_lent → Holds (Short at row) (λ r. (r.1 < length m) × Reads at at row r) (until m fuel gap closing item at row)
  unfolding until
  until_bounded zero gap closing item up b at row l = other refl
  until_bounded (suc fuel) gap closing item up b at row l = let u = up at in bind_law (byte_law _ _) λ _ h. if_law _
      (λ _. holds (h, blank (gap at) u u (omega arith) l))
      (λ _. seq_law item _ (gap at) row (relax (λ z. omega arith) (b (gap at) row (omega arith) (omega arith))) λ f hf.
      relax (λ z. let s = after hf z in omega arith)
      (weaken (λ g hg. (hg.0, earlier u (omega arith) (append hf hg.1))) (until_bounded fuel gap closing item up b _ _ hf.lent)))

  -- ---- schemas

  pub enclosed_bounded : (o : Opening) (item : Reader) → Bounded 0 0 1 item → Bounded 1 1 1 (Schemas.enclosed m rows_lent (group_kind o) o item)
  unfolding Schemas.enclosed Schemas.group
  enclosed_bounded o item b at row h l =
      let k = group_kind_lem o in
      bind_law
      (relax (λ z. omega arith)
      (seq_law {S = Short (at + 1) (row + 1)} {P = λ r. (r.1 < length m) × Reads (at + 1) (at + 1) (row + 1) r} item _ (at + 1) (row + 1)
      (eased b (at + 1) (row + 1) (omega arith) (omega arith)) λ f hf.
      relax (after hf) (weaken (λ g hg. (hg.0, earlier (omega arith) (omega arith) (append hf hg.1)))
      (until_bounded (length m) (λ here. here) _ item (λ a. omega arith) (eased b) _ _ hf.lent))))
      λ u hu. holds (over _ u.0 u.1 (u.1 + 1) row (order_widen _ _ (omega arith) (omega arith) hu.1.order)
      (offset k.uncut k.in_record (omega arith)) (omega arith) (omega arith))

  leaf_bounded : (mark at w next row : ℕ) → at < next → next ≤ length m → row < rows_lent → Reads (at + 1) at row (Schemas.leaf mark at w, next)
  unfolding Schemas.leaf is_cut is_offset is_kind size
  leaf_bounded mark at w next row h k l = over _ none next next row (nothing h) (offset refl refl (omega arith)) k (omega arith)

  pub kind_by_bounded : (nested : Opening → Reader) → ((o : Opening) → Bounded 1 0 1 (nested o)) → Bounded 0 0 1 (Schemas.kind_by m rows_lent nested)
  unfolding Schemas.kind_by Schemas.plain_leaf Schemas.text_leaf
  kind_by_bounded nested b at row _ l = bind_law (byte_law _ _) λ mark h.
      if_law _ (λ _. then_law (row_left_law at row h) λ k. holds (leaf_bounded _ at _ (at + 1) row (omega arith) (omega arith) k)) λ _.
      if_law _ (λ _. then_law (row_left_law at row h) λ k. bind_law (integer_law _ _) λ n s. holds (leaf_bounded _ at _ n.1 row (omega arith) s.1.1 k)) λ _.
      if_law _ (λ _. other refl) λ _.
      if_law _ (λ _. b bracket at row (omega arith) l) λ _.
      if_law _ (λ _. b brace at row (omega arith) l) λ _. other refl

  pub schema_bounded : (levels : ℕ) (o : Opening) → Bounded 1 0 1 (Schemas.nested m rows_lent levels o)
  unfolding Schemas.nested Schemas.group_by Schemas.fixed Schemas.schema
  schema_bounded zero o at row _ _ = other refl
  schema_bounded (suc levels) bracket at row h _ = then_law (row_left_law at row (omega arith)) λ l. bind_law (byte_law _ _) λ _ _. then_law (guard_law _ _ _ refl) λ _.
      enclosed_bounded bracket _ (kind_by_bounded _ (schema_bounded levels)) at row h (omega arith)
  schema_bounded (suc levels) brace at row h _ = then_law (row_left_law at row (omega arith)) λ l.
      enclosed_bounded brace _ (seq_bounded 1 _ _ key_bounded (eased (kind_by_bounded _ (schema_bounded levels)))) at row h (omega arith)

  -- ---- containers

  stored_bounded : (kind : Kind) (mark at start extent row : ℕ) (n : Dimensions.Shape) (below : Forest) → InOrder (suc at) start below → start + extent ≤ length m
      → row + size below < rows_lent → Reads (at + 1) at row (Containers.stored kind mark at start extent n below, start + extent)
  unfolding Containers.stored
  stored_bounded kind mark at start extent row n below u h l =
      let x = order_size u in
      over _ below start _ row u (record { on = omega arith; inside = λ _. (omega arith, omega arith); cut = λ _. omega arith }) h l

  pub packed_bounded : (mark from at row : ℕ) → at < from → row < rows_lent → Holds (Short at row) (Reads (at + 1) at row) (Containers.packed m rows_lent mark from at row)
  unfolding Containers.packed
  packed_bounded mark from at row h l = bind_law (relax (λ z. omega arith) (shape_bounded true from (row + 1) (omega arith))) λ n s.
      then_law (guard_law _ _ _ refl) λ _. then_law (reach_law _ _) λ k. then_law (contents_law _ _ _) λ _.
      holds (stored_bounded _ mark at n.1 _ row n.0 _ (order_widen _ _ h (omega arith) s.order) k (let e = s.lent in omega arith))

  pub table_bounded : (o : Opening) → Bounded 3 1 1 (Containers.table m rows_lent o)
  unfolding Containers.table Schemas.table_schema
  table_bounded o at row h l =
      bind_law (relax (λ z. omega arith) (both (schema_bounded _ brace (at + 2) (row + 1) (omega arith) (omega arith)) (table_schema_gives m rows_lent (at + 2) (row + 1)))) λ s hs.
      bind_law (one_of_law _ _ _) λ _ _.
      let x = order_size hs.0.order in
      bind_law (relax (λ z. omega arith) (shape_bounded false (s.1 + 1) (row + 1 + size s.0) hs.0.lent)) λ n hn.
      then_law (guard_law _ _ _ refl) λ _. then_law (guard_law _ _ _ refl) λ _. then_law (reach_law _ _) λ k. then_law (contents_law _ _ _) λ _.
      holds (stored_bounded _ _ at n.1 _ row n.0 _
      (order_append (order_widen (suc at) (s.1 + 1) (omega arith) (omega arith) (order_placed 0 (group_one hs.1 false) hs.0.order)) hn.order)
      k (let e = hn.lent in omega (arith, size_append (placed 0 s.0) n.0.dimensions, size-placed 0 s.0)))

  container_bounded : (o : Opening) (at start end next row : ℕ) (below : Forest) → at < start → InOrder start end below → end ≤ next → next ≤ length m
      → row + size below < rows_lent → Reads (at + 1) at row (Containers.container o at start end below, next)
  unfolding Containers.container
  container_bounded o at start end next row below h u k i l =
      let x = order_size u in
      over _ below end next row (order_widen (suc at) end h (omega arith) u) (whole (container_uncut o) k (omega arith) (omega arith)) i l

  pub counted_items_bounded : (o : Opening) (item : Reader) (from at row : ℕ) → Bounded 0 0 0 item → at < from → row < rows_lent
      → Holds (Short at row) (Reads (at + 1) at row) (Containers.counted m rows_lent o item from at row)
  unfolding Containers.counted
  counted_items_bounded o item from at row b h l = bind_law (integer_law _ _) λ n s.
      bind_law (relax (λ z. omega arith) (repeat_bounded n.0 item b n.1 (row + 1) (omega arith) (omega arith))) λ u hu.
      holds (container_bounded o at n.1 u.1 u.1 row u.0 (omega arith) hu.order (omega arith) hu.inside (let e = hu.lent in omega arith))

  pub plain_bounded : (o : Opening) (item : Reader) → Bounded 0 0 0 item → Bounded 1 1 1 (Containers.plain m rows_lent o item)
  unfolding Containers.plain
  plain_bounded o item b at row h l = bind_law (relax (λ z. omega arith) (until_bounded (length m) (skip m) _ item (skip_on m) b (at + 1) (row + 1) (omega arith))) λ u hu.
      holds (container_bounded o at (at + 1) u.1 (u.1 + 1) row u.0 (omega arith) hu.1.order (omega arith) (omega arith) (let e = hu.1.lent in omega arith))

  pub typed_as_bounded : (o : Opening) (type : ℕ) → 0 < width type → Bounded 1 1 1 (Containers.typed_as m rows_lent o type)
  unfolding Containers.typed_as
  typed_as_bounded bracket type w at row _ l = packed_bounded type (at + 4) at row (omega arith) (omega arith)
  typed_as_bounded brace type w at row _ l = counted_items_bounded brace _ (at + 4) at row (eased (seq_bounded 1 _ _ key_bounded (eased (unmarked_bounded type w)))) (omega arith) (omega arith)

  pub typed_bounded : (o : Opening) → Bounded 1 1 1 (Containers.typed m rows_lent o)
  unfolding Containers.typed
  typed_bounded o at row h l = bind_law (byte_law _ _) λ type k. if_law _ (λ _. table_bounded o at row (omega arith) l) λ _.
      then_law (guard_law _ _ _ refl) λ t. bind_law (one_of_law _ _ _) λ _ _. typed_as_bounded o type (type_wide type t) at row h l

  -- ---- values

  pub spaced_bounded : (item : Reader) → Bounded 0 0 1 item → Bounded 0 0 1 (spaced m item)
  unfolding spaced
  spaced_bounded item b at row h l =
      let k = skip_on m at in
      later k (omega arith) (b (skip m at) row (omega (arith, skip_inside m at (omega arith))) l)

  pub items_bounded : (o : Opening) (value : Reader) → Bounded 0 0 1 value → Bounded 0 0 1 (Containers.items m rows_lent o value)
  unfolding Containers.items
  items_bounded bracket value b = b
  items_bounded brace value b = seq_bounded 1 _ _ key_bounded (eased (spaced_bounded value b))

  pub container_by_bounded : (value : Reader) → Bounded 0 0 1 value → (o : Opening) → Bounded 1 0 1 (Containers.container_by m rows_lent value o)
  unfolding Containers.container_by
  container_by_bounded value b o at row h _ = then_law (row_left_law at row (omega arith)) λ l. bind_law (byte_law _ _) λ _ _.
      if_law _ (λ _. typed_bounded o at row h (omega arith)) λ _.
      if_law _ (λ _. counted_items_bounded o _ (at + 2) at row (eased (spaced_bounded _ (items_bounded o value b))) (omega arith) l) λ _.
      plain_bounded o _ (eased (items_bounded o value b)) at row h (omega arith)

  module _ (grammar : Grammar) where
    pub value_by_bounded : (nested : Opening → Reader) → ((o : Opening) → Bounded 1 0 1 (nested o)) → Bounded 0 0 1 (Read.value_by m rows_lent grammar nested)
    unfolding Read.value_by is_cut is_kind
    value_by_bounded nested b at row _ l = bind_law (byte_law _ _) λ mark h.
        if_law _ (λ _. scalar_bounded mark (at + 1) at row h (omega arith) (omega arith)) λ _.
        if_law _ (λ _. text_bounded _ _ refl at row (omega arith) l) λ _.
        if_law _ (λ _. text_bounded _ _ refl at row (omega arith) l) λ _.
        if_law _ (λ _. b bracket at row (omega arith) l) λ _.
        if_law _ (λ _. b brace at row (omega arith) l) λ _.
        if_law _ (λ _. extension_bounded at row (omega arith) l) λ _. other refl

    pub nested_bounded : (levels : ℕ) (o : Opening) → Bounded 1 0 1 (Read.nested m rows_lent grammar levels o)
    unfolding Read.nested
    nested_bounded zero o at row _ _ = other refl
    nested_bounded (suc levels) o at row h l = container_by_bounded _ (value_by_bounded _ (nested_bounded levels)) o at row h l

    -- a value, with so many levels of nesting left
    pub value_bounded : (levels : ℕ) → Bounded 0 0 1 (Read.value_by m rows_lent grammar (Read.nested m rows_lent grammar levels))
    value_bounded levels = value_by_bounded _ (nested_bounded levels)

    -- a message
    pub read_bounded : Holds (rows_lent < length m) (λ f. (size f ≤ rows_lent) × InOrder 0 (length m) f) (Read.read m rows_lent grammar)
    unfolding Read.read
    read_bounded = then_law (guard_law _ _ _ refl) λ _.
        bind_law (relax (λ z. omega arith) (value_bounded _ (skip m 0) 0 (omega (arith, skip_inside m 0 (omega arith))) (omega arith))) λ r s.
        then_law (guard_law _ _ _ refl) λ _. holds (let e = s.lent in omega arith, order_widen 0 (length m) (omega arith) s.inside s.order)
