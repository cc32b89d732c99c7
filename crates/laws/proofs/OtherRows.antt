-- An accepted message read with another number of rows: it is accepted with the same tokens where there is a row for each, and else refused
-- with 8 at the first byte of the first token that has none. Assumes nothing.
use Prim.Native.Nat.{ℕ, zero, suc, ◌+◌, ◌≤◌, ◌<◌}
use mathlib.Core.Path.{◌≡◌, refl, sym, subst, ◌∙◌}
use mathlib.Core.Bool.{Bool, true, false}
use mathlib.Core.List.{List}
use native.Mathlib.Omega.{arith}
use lib.ListN.{length}
use lib.Dec.{ltb}
use borrow.Author.Tests.{ltb-true, ltb-false}
use Rattle.format.specs.Grammars.{Grammar}
use Rattle.format.specs.Conditions.{when◌then◌else◌}
use Rattle.format.specs.Outcome.{Outcome, fault, done, Parsed, ◌>>=◌, ◌>>◌, guard}
use Rattle.format.specs.Refusals.{no_row_left}
use Rattle.format.specs.Marks.{Opening, bracket, brace}
use Rattle.format.specs.Tokens.{Token, Kind, key as kind_of_key, is_kind, Forest, none, node, size, ◌⊕◌}
use Rattle.format.specs.Records.{at_offset, placed}
use Rattle.format.specs.Bytes.{byte, skip}
use Rattle.format.specs.Sequences.{Reader, row_left, ◌⨾◌, repeat, until, spaced}
use Rattle.format.specs.Scalars as Scalars
use Rattle.format.specs.Dimensions as Dimensions
use Rattle.format.specs.Schemas as Schemas
use Rattle.format.specs.Containers as Containers
use Rattle.format.specs.Extensions as Extensions
use Rattle.format.specs.Read as Read
use Rattle.format.proofs.Forests.{size_append}
use Rattle.laws.specs.Places.{At, here, under, later}
use Rattle.laws.proofs.Holds.{Holds, refused, holds, bind_law, then_law, if_law, any_law, weaken}
use Rattle.laws.proofs.Order.{size-placed}
use Rattle.laws.proofs.Schemas.{group_kind}

-- ---- rows of forests

at_first : {row k : ℕ} {t : Token} {below after : Forest} → row ≡ k → At row (node t below after) k t below
at_first {row} {t = t} {below = below} {after = after} e = subst (λ (x : ℕ). At row (node t below after) x t below) e here

at_under : {row k : ℕ} {t u : Token} {below after v : Forest} → At (row + 1) below k u v → At row (node t below after) k u v
at_under {row} {k} {u = u} {below = below} {v = v} x = let e : row + 1 ≡ suc row = omega arith in under (subst (λ (n : ℕ). At n below k u v) e x)

at_left : {row k : ℕ} {f v : Forest} {t : Token} (g : Forest) → At row f k t v → At row (f ⊕ g) k t v
unfolding ◌⊕◌
at_left g here = here
at_left g (under x) = under x
at_left g (later x) = later (at_left g x)

at_right : {row k : ℕ} (f : Forest) {g v : Forest} {t : Token} → At (row + size f) g k t v → At row (f ⊕ g) k t v
unfolding ◌⊕◌ size
at_right {row} {k} none {g} {v} {t} x = let e : row + 0 ≡ row = omega arith in subst (λ (n : ℕ). At n g k t v) e x
at_right {row} {k} (node u below after) {g} {v} {t} x =
    let e : row + suc (size below + size after) ≡ suc row + size below + size after = omega arith in
    later (at_right {row = suc row + size below} after (subst (λ (n : ℕ). At n g k t v) e x))

-- a token that begins at a place stands at row k
record Begins (row : ℕ) (f : Forest) (k place : ℕ) : Type 0 where
  token : Token
  below : Forest
  stands : At row f k token below
  begins : token.first ≡ place

-- offsets move no token
begins_placed : {row k : ℕ} {f v : Forest} {t : Token} (offset : ℕ) → At row f k t v → Begins row (placed offset f) k t.first
unfolding placed at_offset when◌then◌else◌
begins_placed offset (here {t = s} {below = below} {after = after}) = go (is_kind kind_of_key s.kind)
  where
    go : {row : ℕ} (b : Bool)
        → Begins row (when b then node s below (placed offset after) else node (at_offset offset s) (placed offset below) (placed (offset + s.extent) after)) row s.first
    go true = record { token = _; below = _; stands = here; begins = refl }
    go false = record { token = _; below = _; stands = here; begins = refl }
begins_placed offset (under {t = s} {below = below} {after = after} x) = go (is_kind kind_of_key s.kind) x (begins_placed offset x)
  where
    go : {row k : ℕ} {t : Token} {v : Forest} (b : Bool) → At (suc row) below k t v → Begins (suc row) (placed offset below) k t.first
        → Begins row (when b then node s below (placed offset after) else node (at_offset offset s) (placed offset below) (placed (offset + s.extent) after)) k t.first
    go true x y = record { token = _; below = _; stands = under x; begins = refl }
    go false x y = record { token = _; below = _; stands = under y.stands; begins = y.begins }
begins_placed offset (later {t = s} {below = below} {after = after} x) =
    go (is_kind kind_of_key s.kind) (begins_placed offset x) (begins_placed (offset + s.extent) x)
  where
    go : {row k place : ℕ} (b : Bool) → Begins (suc row + size below) (placed offset after) k place → Begins (suc row + size below) (placed (offset + s.extent) after) k place
        → Begins row (when b then node s below (placed offset after) else node (at_offset offset s) (placed offset below) (placed (offset + s.extent) after)) k place
    go true x y = record { token = _; below = _; stands = later x.stands; begins = x.begins }
    go {row} {k} false x y =
        let e = sym (size-placed offset below) in
        record { token = _; below = _; stands = later (subst (λ (n : ℕ). At (suc row + n) (placed (offset + s.extent) after) k y.token y.below) e y.stands); begins = y.begins }

-- ---- answers with two numbers of rows

-- what k lent rows give from a row on, where another number of rows gives the second answer
pub data Lent (k : ℕ) {A : Type 0} (tokens : A → Forest) (row : ℕ) : Outcome A → Outcome A → Type 0 where
  -- nothing is said where that is a refusal
  either : {o : Outcome A} {n p : ℕ} → Lent k tokens row o (fault n p)
  -- the same, where there is a row for each token
  held : {a : A} → row + size (tokens a) ≤ k → Lent k tokens row (done a) (done a)
  -- and else 8 at the first byte of the token at row k
  lacking : {a : A} {t : Token} {v : Forest} {place : ℕ} → At row (tokens a) k t v → t.first ≡ place → Lent k tokens row (fault no_row_left place) (done a)

module _ (k : ℕ) {A : Type 0} {tokens : A → Forest} {row : ℕ} where
  -- the constructor as a function: what is expected decides the numbers before `omega` is asked
  hold : (a : A) → row + size (tokens a) ≤ k → Lent k tokens row (done a) (done a)
  hold a h = held h

  -- what doesn't depend on the rows is the same for both
  same_lent : {B : Type 0} (o : Outcome B) {f f' : B → Outcome A} → ((b : B) → Lent k tokens row (f b) (f' b)) → Lent k tokens row (o >>= f) (o >>= f')
  unfolding ◌>>=◌
  same_lent (fault n p) c = either
  same_lent (done b) c = c b

  test_lent : (o : Outcome (Unit {0})) {x x' : Outcome A} → Lent k tokens row x x' → Lent k tokens row (o >> x) (o >> x')
  unfolding ◌>>◌
  test_lent (fault n p) c = either
  test_lent (done b) c = c

  if_lent : (b : Bool) {x x' y y' : Outcome A} → Lent k tokens row x x' → Lent k tokens row y y' → Lent k tokens row (when b then x else y) (when b then x' else y')
  unfolding when◌then◌else◌
  if_lent true c d = c
  if_lent false c d = d

  -- 8 was given: whatever the rest is
  past : {B : Type 0} {n p : ℕ} (o : Outcome B) {f : B → Outcome A} → ((b : B) → Lent k tokens row (fault n p) (f b)) → Lent k tokens row (fault n p) (o >>= f)
  unfolding ◌>>=◌
  past (fault n p) c = either
  past (done b) c = c b

  past_test : {n p : ℕ} (o : Outcome (Unit {0})) {x : Outcome A} → Lent k tokens row (fault n p) x → Lent k tokens row (fault n p) (o >> x)
  unfolding ◌>>◌
  past_test (fault n p) c = either
  past_test (done b) c = c

  -- a part from another row on, and then the rest
  bind_lent : {B : Type 0} {part : B → Forest} {from : ℕ} {o o' : Outcome B} {f f' : B → Outcome A} → Lent k part from o o'
      → ((b : B) → from + size (part b) ≤ k → Lent k tokens row (f b) (f' b))
      → ((b : B) (t : Token) (v : Forest) (place : ℕ) → At from (part b) k t v → t.first ≡ place → Lent k tokens row (fault no_row_left place) (f' b))
      → Lent k tokens row (o >>= f) (o' >>= f')
  unfolding ◌>>=◌
  bind_lent either c d = either
  bind_lent (held {a = b} h) c d = c b h
  bind_lent (lacking {a = b} {t = t} {v = v} {place = place} x e) c d = d b t v place x e

-- the first token of what was read begins at a place; and it is the only one
data Headed (at : ℕ) : Forest → Type 0 where
  headed : {t : Token} {below after : Forest} → t.first ≡ at → Headed at (node t below after)

data Single (at : ℕ) : Forest → Type 0 where
  single : {t : Token} → t.first ≡ at → Single at (node t none none)

abbrev Heads : ℕ → Parsed Forest → Type 0
Heads at o = Holds (Unit {0}) (λ r. Headed at r.0) o

module _ (k r : ℕ) where
  -- a row for the token that begins here, and then the token
  row_lent : (at row : ℕ) {o o' : Parsed Forest} → row ≤ k → (row < k → Lent k (λ r. r.0) row o o') → Heads at o'
      → Lent k (λ r. r.0) row (row_left k at row >> o) (row_left r at row >> o')
  unfolding row_left guard ◌>>◌
  row_lent at row {o} {o'} l c h = go (ltb row k) refl (ltb row r)
    where
      first : row ≡ k → {o' : Parsed Forest} → Heads at o' → Lent k (λ r. r.0) row (fault no_row_left at) o'
      first e (refused s) = either
      first e (holds {a = (f, next)} (headed b)) = lacking (at_first e) b

      go : (b : Bool) → ltb row k ≡ b → (b' : Bool) → Lent k (λ r. r.0) row (guard b no_row_left at >> o) (guard b' no_row_left at >> o')
      go true e true = c (ltb-true row k e)
      go false e true = first (let x = ltb-false row k e in omega arith) h
      go b e false = either

  token_lent : (at row : ℕ) {o : Parsed Forest} → row ≤ k → Holds (Unit {0}) (λ r. Single at r.0) o → Lent k (λ r. r.0) row (row_left k at row >> o) (row_left r at row >> o)
  unfolding size
  token_lent at row l h = row_lent at row l (λ i. one h i) (weaken (λ _ s. first s) h)
    where
      first : {f : Forest} → Single at f → Headed at f
      first (single e) = headed e

      one : {o : Parsed Forest} → Holds (Unit {0}) (λ r. Single at r.0) o → row < k → Lent k (λ r. r.0) row o o
      one (refused s) i = either
      one (holds {a = (f, next)} (single e)) i = hold k _ (omega arith)

  -- ---- readers

  -- a reader with k rows lent, and the same with r
  abbrev Lends : Reader → Reader → Type 0
  Lends few many = (at row : ℕ) → row ≤ k → Lent k (λ r. r.0) row (few at row) (many at row)

  seq_lends : {one one' other other' : Reader} → Lends one one' → Lends other other' → Lends (one ⨾ other) (one' ⨾ other')
  unfolding ◌⨾◌
  seq_lends {one} {one'} {other} {other'} a b at row l = bind_lent k (a at row l)
      (λ f h. bind_lent k (b f.1 (row + size f.0) h)
      (λ g i. hold k _ (omega (arith, size_append f.0 g.0)))
      λ g t v place x e. lacking (at_right f.0 x) e)
      λ f t v place x e. past k (other' f.1 (row + size f.0)) λ g. lacking (at_left g.0 x) e

  none_lent : (row next : ℕ) → row ≤ k → Lent k (λ (r : Forest × ℕ). r.0) row (done (none, next)) (done (none, next))
  unfolding size
  none_lent row next l = hold k _ (omega arith)

  repeat_lends : (n : ℕ) {item item' : Reader} → Lends item item' → Lends (repeat n item) (repeat n item')
  unfolding repeat
  repeat_lends zero a at row l = none_lent row at l
  repeat_lends (suc n) a at row l = seq_lends a (repeat_lends n a) at row l

  module _ (m : List ℕ) where
    until_lends : (fuel : ℕ) (gap : ℕ → ℕ) (closing : ℕ) {item item' : Reader} → Lends item item' → Lends (until m fuel gap closing item) (until m fuel gap closing item')
    unfolding until
    until_lends zero gap closing a at row l = either
    until_lends (suc fuel) gap closing a at row l = same_lent k (byte m (gap at)) λ b. if_lent k _ (none_lent row (gap at) l)
        (seq_lends a (until_lends fuel gap closing a) (gap at) row l)

    spaced_lends : {item item' : Reader} → Lends item item' → Lends (spaced m item) (spaced m item')
    unfolding spaced
    spaced_lends a at row l = a (skip m at) row l

    -- a token over a part that starts in the next row
    over_lent : {B : Type 0} {part : B → Forest} {row : ℕ} {o o' : Outcome B} (t : B → Token) (next : B → ℕ) → row < k → Lent k part (row + 1) o o'
        → Lent k (λ (r : Forest × ℕ). r.0) row (o >>= (λ b. done (node (t b) (part b) none, next b))) (o' >>= (λ b. done (node (t b) (part b) none, next b)))
    unfolding size
    over_lent t next l c = bind_lent k c (λ b h. hold k _ (omega arith)) λ b u v place x e. lacking (at_under x) e

    -- ---- scalars, texts, keys and extensions

    scalar_lends : (mark start : ℕ) → Lends (Scalars.scalar m k mark start) (Scalars.scalar m r mark start)
    unfolding Scalars.scalar
    scalar_lends mark start at row l = token_lent at row l (bind_law (any_law _) λ _ _. holds (single refl))

    unmarked_lends : (mark : ℕ) → Lends (Scalars.unmarked m k mark) (Scalars.unmarked m r mark)
    unfolding Scalars.unmarked
    unmarked_lends mark at row l = same_lent k _ λ _. scalar_lends mark at at row l

    text_lends : (kind : Kind) (mark : ℕ) → Lends (Scalars.text m k kind mark) (Scalars.text m r kind mark)
    unfolding Scalars.text
    text_lends kind mark at row l = token_lent at row l (bind_law (any_law _) λ _ _. bind_law (any_law _) λ _ _. holds (single refl))

    key_lends : Lends (Scalars.key m k) (Scalars.key m r)
    unfolding Scalars.key
    key_lends at row l = same_lent k _ λ mark. token_lent at row l (bind_law (any_law _) λ _ _. bind_law (any_law _) λ _ _. holds (single refl))

    extension_lends : Lends (Extensions.extension m k) (Extensions.extension m r)
    unfolding Extensions.extension
    extension_lends at row l = token_lent at row l (bind_law (any_law _) λ _ _. bind_law (any_law _) λ _ _. then_law (any_law _) λ _.
        bind_law (any_law _) λ _ _. holds (single refl))

    -- ---- dimensions

    dimension_lends : (mark start : ℕ) → Lends (Dimensions.dimension m k mark start) (Dimensions.dimension m r mark start)
    unfolding Dimensions.dimension
    dimension_lends mark start at row l = token_lent at row l (bind_law (any_law _) λ _ _. holds (single refl))

    marked_lends : Lends (Dimensions.marked m k) (Dimensions.marked m r)
    unfolding Dimensions.marked
    marked_lends at row l = same_lent k _ λ mark. dimension_lends mark (at + 1) at row l

    bare_lends : (mark : ℕ) → Lends (Dimensions.bare m k mark) (Dimensions.bare m r mark)
    unfolding Dimensions.bare
    bare_lends mark at row l = same_lent k _ λ _. dimension_lends mark at at row l

    listed_lends : (left place : ℕ) → Lends (Dimensions.listed m k left place) (Dimensions.listed m r left place)
    unfolding Dimensions.listed
    listed_lends zero place at row l = either
    listed_lends (suc left) place at row l = same_lent k _ λ _. if_lent k _ (none_lent row (at + 1) l) (seq_lends marked_lends (listed_lends left place) at row l)

    counted_lends : (place : ℕ) {item item' : Reader} → Lends item item' → Lends (Dimensions.counted m k place item) (Dimensions.counted m r place item')
    unfolding Dimensions.counted
    counted_lends place a at row l = same_lent k _ λ n. test_lent k _ (repeat_lends n.0 a n.1 row l)

    vector_lends : (place : ℕ) → Lends (Dimensions.vector m k place) (Dimensions.vector m r place)
    unfolding Dimensions.vector Dimensions.counted_bare
    vector_lends place at row l = same_lent k _ λ _. if_lent k _ either
        (if_lent k _ (counted_lends place marked_lends (at + 1) row l)
        (if_lent k _ (same_lent k _ λ mark. same_lent k _ λ _. counted_lends place (bare_lends mark) (at + 1 + 2) row l)
        (seq_lends marked_lends (listed_lends _ place) at row l)))

    -- a count: its dimensions
    shape_lent : (may_wrap : Bool) (at row : ℕ) → row ≤ k
        → Lent k (λ (n : Dimensions.Shape × ℕ). n.0.dimensions) row (Dimensions.shape m k may_wrap at row) (Dimensions.shape m r may_wrap at row)
    unfolding Dimensions.shape Dimensions.plain Dimensions.slowest Dimensions.fastest Dimensions.shaped size
    shape_lent may_wrap at row l = same_lent k _ λ _. if_lent k _ (same_lent k _ λ n. hold k _ (omega arith))
        (same_lent k _ λ _. if_lent k _
        (bind_lent k (vector_lends at (at + 2) row l) (λ d h. same_lent k _ λ _. hold k _ h) λ d t v place x e. past k _ λ _. lacking x e)
        (bind_lent k (vector_lends at (at + 1) row l) (λ d h. hold k _ h) λ d t v place x e. lacking x e))

    -- ---- schemas

    enclosed_lent : (o : Opening) {item item' : Reader} → Lends item item' → (at row : ℕ) → row < k
        → Lent k (λ r. r.0) row (Schemas.enclosed m k (group_kind o) o item at row) (Schemas.enclosed m r (group_kind o) o item' at row)
    unfolding Schemas.enclosed Schemas.group
    enclosed_lent o a at row l = over_lent _ _ l (seq_lends a (until_lends (length m) (λ here. here) _ a) (at + 1) (row + 1) (omega arith))

    enclosed_heads : (o : Opening) (item : Reader) (at row : ℕ) → Heads at (Schemas.enclosed m r (group_kind o) o item at row)
    unfolding Schemas.enclosed Schemas.group
    enclosed_heads o item at row = bind_law (any_law _) λ _ _. holds (headed refl)

    kind_by_lends : {nested nested' : Opening → Reader} → ((o : Opening) → Lends (nested o) (nested' o)) → Lends (Schemas.kind_by m k nested) (Schemas.kind_by m r nested')
    unfolding Schemas.kind_by Schemas.plain_leaf Schemas.text_leaf Schemas.leaf
    kind_by_lends a at row l = same_lent k _ λ _. if_lent k _ (token_lent at row l (holds (single refl)))
        (if_lent k _ (token_lent at row l (bind_law (any_law _) λ _ _. holds (single refl)))
        (if_lent k _ either
        (if_lent k _ (a bracket at row l)
        (if_lent k _ (a brace at row l) either))))

    schema_lends : (levels : ℕ) (o : Opening) → Lends (Schemas.nested m k levels o) (Schemas.nested m r levels o)
    unfolding Schemas.nested Schemas.group_by Schemas.fixed Schemas.schema
    schema_lends zero o at row l = either
    schema_lends (suc levels) bracket at row l = row_lent at row l
        (λ h. same_lent k _ λ _. test_lent k _ (enclosed_lent bracket (kind_by_lends (schema_lends levels)) at row h))
        (bind_law (any_law _) λ _ _. then_law (any_law _) λ _. enclosed_heads bracket _ at row)
    schema_lends (suc levels) brace at row l = row_lent at row l
        (λ h. enclosed_lent brace (seq_lends key_lends (kind_by_lends (schema_lends levels))) at row h) (enclosed_heads brace _ at row)

    -- ---- containers

    packed_lent : (mark from at row : ℕ) → row < k → Lent k (λ r. r.0) row (Containers.packed m k mark from at row) (Containers.packed m r mark from at row)
    unfolding Containers.packed Containers.stored size
    packed_lent mark from at row l = bind_lent k (shape_lent true from (row + 1) (omega arith))
        (λ n h. test_lent k _ (test_lent k _ (test_lent k _ (hold k _ (omega arith)))))
        λ n t v place x e. past_test k _ (past_test k _ (past_test k _ (lacking (at_under x) e)))

    table_lent : (o : Opening) (at row : ℕ) → row < k → Lent k (λ r. r.0) row (Containers.table m k o at row) (Containers.table m r o at row)
    unfolding Containers.table Containers.stored Schemas.table_schema size
    table_lent o at row l = bind_lent k (schema_lends _ brace (at + 2) (row + 1) (omega arith))
        (λ s h. same_lent k _ λ _. bind_lent k (shape_lent false (s.1 + 1) (row + 1 + size s.0) h)
        (λ n i. test_lent k _ (test_lent k _ (test_lent k _ (test_lent k _
        (hold k _ (omega (arith, size_append (placed 0 s.0) n.0.dimensions, size-placed 0 s.0)))))))
        λ n t v place x e. past_test k _ (past_test k _ (past_test k _ (past_test k _
        (lacking (at_under (at_right (placed 0 s.0) (subst (λ (z : ℕ). At (row + 1 + z) n.0.dimensions k t v) (sym (size-placed 0 s.0)) x))) e)))))
        λ s t v place x e. let b = begins_placed 0 x in past k _ λ _. past k _ λ n. past_test k _ (past_test k _ (past_test k _ (past_test k _
        (lacking (at_under (at_left n.0.dimensions b.stands)) (b.begins ∙ e)))))

    counted_items_lent : (o : Opening) {item item' : Reader} (from at row : ℕ) → Lends item item' → row < k
        → Lent k (λ r. r.0) row (Containers.counted m k o item from at row) (Containers.counted m r o item' from at row)
    unfolding Containers.counted Containers.container
    counted_items_lent o from at row a l = same_lent k _ λ n. over_lent _ _ l (repeat_lends n.0 a n.1 (row + 1) (omega arith))

    plain_lent : (o : Opening) {item item' : Reader} (at row : ℕ) → Lends item item' → row < k
        → Lent k (λ r. r.0) row (Containers.plain m k o item at row) (Containers.plain m r o item' at row)
    unfolding Containers.plain Containers.container
    plain_lent o at row a l = over_lent _ _ l (until_lends (length m) (skip m) _ a (at + 1) (row + 1) (omega arith))

    typed_as_lent : (o : Opening) (type at row : ℕ) → row < k → Lent k (λ r. r.0) row (Containers.typed_as m k o type at row) (Containers.typed_as m r o type at row)
    unfolding Containers.typed_as
    typed_as_lent bracket type at row l = packed_lent type (at + 4) at row l
    typed_as_lent brace type at row l = counted_items_lent brace (at + 4) at row (seq_lends key_lends (unmarked_lends type)) l

    typed_lent : (o : Opening) (at row : ℕ) → row < k → Lent k (λ r. r.0) row (Containers.typed m k o at row) (Containers.typed m r o at row)
    unfolding Containers.typed
    typed_lent o at row l = same_lent k _ λ type. if_lent k _ (table_lent o at row l) (test_lent k _ (same_lent k _ λ _. typed_as_lent o type at row l))

    items_lend : (o : Opening) {value value' : Reader} → Lends value value' → Lends (Containers.items m k o value) (Containers.items m r o value')
    unfolding Containers.items
    items_lend bracket a = a
    items_lend brace a = seq_lends key_lends (spaced_lends a)

    -- each container is one token with those below it
    counted_heads : (o : Opening) (item : Reader) (from at row : ℕ) → Heads at (Containers.counted m r o item from at row)
    unfolding Containers.counted Containers.container
    counted_heads o item from at row = bind_law (any_law _) λ _ _. bind_law (any_law _) λ _ _. holds (headed refl)

    typed_as_heads : (o : Opening) (type at row : ℕ) → Heads at (Containers.typed_as m r o type at row)
    unfolding Containers.typed_as Containers.packed Containers.stored
    typed_as_heads bracket type at row = bind_law (any_law _) λ _ _. then_law (any_law _) λ _. then_law (any_law _) λ _. then_law (any_law _) λ _. holds (headed refl)
    typed_as_heads brace type at row = counted_heads brace _ (at + 4) at row

    typed_heads : (o : Opening) (at row : ℕ) → Heads at (Containers.typed m r o at row)
    unfolding Containers.typed Containers.table Containers.stored
    typed_heads o at row = bind_law (any_law _) λ type _. if_law _
        (λ _. bind_law (any_law _) λ _ _. bind_law (any_law _) λ _ _. bind_law (any_law _) λ _ _. then_law (any_law _) λ _. then_law (any_law _) λ _.
        then_law (any_law _) λ _. then_law (any_law _) λ _. holds (headed refl))
        (λ _. then_law (any_law _) λ _. bind_law (any_law _) λ _ _. typed_as_heads o type at row)

    plain_heads : (o : Opening) (item : Reader) (at row : ℕ) → Heads at (Containers.plain m r o item at row)
    unfolding Containers.plain Containers.container
    plain_heads o item at row = bind_law (any_law _) λ _ _. holds (headed refl)

    container_by_lends : {value value' : Reader} → Lends value value' → (o : Opening) → Lends (Containers.container_by m k value o) (Containers.container_by m r value' o)
    unfolding Containers.container_by
    container_by_lends a o at row l = row_lent at row l
        (λ h. same_lent k _ λ _. if_lent k _ (typed_lent o at row h)
        (if_lent k _ (counted_items_lent o (at + 2) at row (spaced_lends (items_lend o a)) h) (plain_lent o at row (items_lend o a) h)))
        (bind_law (any_law _) λ _ _. if_law _ (λ _. typed_heads o at row) (λ _. if_law _ (λ _. counted_heads o _ (at + 2) at row) (λ _. plain_heads o _ at row)))

    -- ---- values

    module _ (grammar : Grammar) where
      value_by_lends : {nested nested' : Opening → Reader} → ((o : Opening) → Lends (nested o) (nested' o)) → Lends (Read.value_by m k grammar nested) (Read.value_by m r grammar nested')
      unfolding Read.value_by
      value_by_lends a at row l = same_lent k _ λ mark. if_lent k _ (scalar_lends mark (at + 1) at row l)
          (if_lent k _ (text_lends _ _ at row l)
          (if_lent k _ (text_lends _ _ at row l)
          (if_lent k _ (a bracket at row l)
          (if_lent k _ (a brace at row l)
          (if_lent k _ (extension_lends at row l) either)))))

      nested_lends : (levels : ℕ) (o : Opening) → Lends (Read.nested m k grammar levels o) (Read.nested m r grammar levels o)
      unfolding Read.nested
      nested_lends zero o at row l = either
      nested_lends (suc levels) o at row l = container_by_lends (value_by_lends (nested_lends levels)) o at row l

      -- A message read with k rows lent, and with r.
      pub read_lent : Lent k (λ f. f) 0 (Read.read m k grammar) (Read.read m r grammar)
      unfolding Read.read
      read_lent = test_lent k _ (bind_lent k (value_by_lends (nested_lends _) (skip m 0) 0 (omega arith))
          (λ f h. test_lent k _ (hold k _ h)) λ f t v place x e. past_test k _ (lacking x e))
