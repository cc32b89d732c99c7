-- The packed arrays and tables that reading gives: what their tokens say, and what stands below them. Assumes nothing.
use Prim.Native.Nat.{ℕ, zero, suc, ◌+◌, ◌*◌}
use mathlib.Core.Path.{◌≡◌, refl, sym, ap, ◌∙◌}
use mathlib.Core.Bool.{Bool, true, false, false≢true}
use mathlib.Core.List.{List}
use native.Mathlib.Omega.{arith}
use lib.Dec.{eqb}
use Rattle.format.specs.Grammars.{Grammar}
use Rattle.format.specs.Marks.{Opening, bracket, brace, opens, is_type, width, left_brace}
use Rattle.format.specs.Tokens.{Token, Kind, packed as kind_of_packed, table as kind_of_table, key as kind_of_key, leaf as kind_of_leaf, dimension as kind_of_dimension, schema_record, first_slowest, first_fastest, is_kind, Forest, none, node, alone, ◌⊕◌}
use Rattle.format.specs.Records.{total_width, at_offset, placed}
use Rattle.format.specs.Sequences.{Reader, ◌⨾◌, repeat, until, spaced}
use Rattle.format.specs.Scalars as Scalars
use Rattle.format.specs.Containers as Containers
use Rattle.format.specs.Extensions as Extensions
use Rattle.format.specs.Read as Read
use Rattle.laws.specs.Places.{At, here, under, later, IsCut}
use Rattle.laws.proofs.Holds.{Holds, holds, bind_law, then_law, if_law, seq_law, other, guard_law, any_law, weaken}
use Rattle.laws.proofs.Order.{is_cut, cut_kind, OfSchema, leaf_kind, group_kind_lem}
use Rattle.laws.proofs.Schemas.{Is, group_kind, Group, grouped, Members, no_more, key, leaf, group, Gives, table_schema_gives}
use Rattle.laws.proofs.Bounds.{container_uncut}
use Rattle.laws.proofs.Slots.{member_width_lem}
use Rattle.storage.proofs.Offsets.{Placed, width_placed, is_placed, member_placed, members-placed, offsets_placed}
use Rattle.laws.proofs.Counts.{Dimensioned, no_dimension, one_dimension, Shaped, plain, vector, shape_gives}

-- a packed array, with its dimensions
pub record IsPacked (t : Token) (dimensions : Forest) : Type 0 where
  pub kind_is : t.kind ≡ kind_of_packed
  pub mark_is : is_type t.mark ≡ true
  pub extent_is : t.extent ≡ t.count * width t.mark
  pub shaped : Shaped first_fastest t.order t.count dimensions

-- a table, with its schema, the schema's members, and its dimensions
pub record IsTable (t s : Token) (members dimensions : Forest) : Type 0 where
  pub kind_is : t.kind ≡ kind_of_table
  pub opening : Opening
  pub mark_is : t.mark ≡ opens opening
  pub extent_is : t.extent ≡ t.count * s.extent
  pub schema_is : Is schema_record (eqb left_brace) s
  pub width_is : s.extent ≡ total_width members
  pub keyed : Members true false members
  pub offsets : Placed 0 members
  pub shaped : Shaped first_slowest t.order t.count dimensions

-- one of the two
pub data Stored : Token → Forest → Type 0 where
  packed_array : {t : Token} {below : Forest} → IsPacked t below → Stored t below
  record_table : {t s : Token} {members dimensions : Forest} → IsTable t s members dimensions → Stored t (node s members dimensions)

-- every token that is cut into slots is one of them
pub data AllStored : Forest → Type 0 where
  no_token : AllStored none
  token : {t : Token} {below after : Forest} → (IsCut t.kind → Stored t below) → AllStored below → AllStored after → AllStored (node t below after)

-- wherever it stands
pub at_stored : {f v : Forest} {n k : ℕ} {t : Token} → AllStored f → At n f k t v → IsCut t.kind → Stored t v
at_stored no_token x c = elim x [ ]
at_stored (token s u a) here c = s c
at_stored (token s u a) (under x) c = at_stored u x c
at_stored (token s u a) (later x) c = at_stored a x c

-- by its kind
pub as_packed : {t : Token} {below : Forest} → Stored t below → t.kind ≡ kind_of_packed → IsPacked t below
as_packed (packed_array ok) e = ok
as_packed (record_table ok) e = let k = ok.kind_is in let z : ◌≡◌ {A = ℕ} 0 1 = cc in absurd (omega arith)

-- a table, with its schema and its dimensions
pub data TableOf (t : Token) : Forest → Type 0 where
  table_of : {s : Token} {members dims : Forest} → IsTable t s members dims → TableOf t (node s members dims)

pub table_of_lem : {t s : Token} {members dims : Forest} → TableOf t (node s members dims) → IsTable t s members dims
table_of_lem (table_of ok) = ok

-- a table by its kind
pub as_table : {t : Token} {below : Forest} → Stored t below → t.kind ≡ kind_of_table → TableOf t below
as_table (packed_array ok) e = let k = ok.kind_is in let z : ◌≡◌ {A = ℕ} 0 1 = cc in absurd (omega arith)
as_table (record_table ok) e = table_of ok

-- ---- forests of tokens

-- a token of another kind
uncut : {t : Token} {below : Forest} (k : Kind) → is_cut k ≡ false → t.kind ≡ k → IsCut t.kind → Stored t below
uncut {t} k e q c = absurd (false≢true (sym e ∙ ap is_cut (sym q) ∙ (cut_kind t.kind c).0))

-- such a token alone
lone : {t : Token} → is_cut t.kind ≡ false → AllStored (alone t)
lone {t} e = token (uncut t.kind e refl) no_token no_token

stored_append : {f g : Forest} → AllStored f → AllStored g → AllStored (f ⊕ g)
unfolding ◌⊕◌
stored_append no_token q = q
stored_append (token s u a) q = token s u (stored_append a q)

dimensions_stored : {f : Forest} → Dimensioned f → AllStored f
unfolding is_cut is_kind
dimensions_stored no_dimension = no_token
dimensions_stored (one_dimension i r) = token (uncut kind_of_dimension refl i.kind_is) no_token (dimensions_stored r)

shaped_dimensions : {highest order n : ℕ} {f : Forest} → Shaped highest order n f → Dimensioned f
shaped_dimensions plain = no_dimension
shaped_dimensions (vector e h v) = v.dimensioned

members_stored : {k due : Bool} {f : Forest} → Members k due f → AllStored f
unfolding is_cut is_kind
members_stored no_more = no_token
members_stored (key i r) = token (uncut kind_of_key refl i.kind_is) no_token (members_stored r)
members_stored (leaf i r) = token (uncut kind_of_leaf leaf_kind.uncut i.kind_is) no_token (members_stored r)
members_stored (group o i e u r) = token (uncut (group_kind o) (group_kind_lem o).uncut i.kind_is) (members_stored u) (members_stored r)

-- ---- readers

seq_stored : (one next : Reader) → Gives AllStored one → Gives AllStored next → Gives AllStored (one ⨾ next)
seq_stored one next p q at row = seq_law one next at row (p at row) λ f hf. weaken (λ g hg. stored_append hf hg) (q _ _)

repeat_stored : (n : ℕ) (item : Reader) → Gives AllStored item → Gives AllStored (repeat n item)
unfolding repeat
repeat_stored zero item p at row = holds no_token
repeat_stored (suc n) item p at row = seq_stored item (repeat n item) p (repeat_stored n item p) at row

-- a table's tokens, when its schema is given its offsets
schema_placed : (s : Token) (below : Forest) → OfSchema s.kind → placed 0 (node s below none) ≡ node (at_offset 0 s) (placed 0 below) none
unfolding placed
schema_placed s below o = member_placed 0 s below none o

schema_width : (s : Token) (below : Forest) → OfSchema s.kind → total_width (node s below none) ≡ s.extent
unfolding total_width
schema_width s below o = omega (arith, member_width_lem s o)

table_stored : (t : Token) (schema dims : Forest) (o : Opening) → Group brace schema → t.kind ≡ kind_of_table → t.mark ≡ opens o → t.extent ≡ t.count * total_width schema
    → Shaped first_slowest t.order t.count dims → AllStored (node t (placed 0 schema ⊕ dims) none)
unfolding ◌⊕◌ at_offset opens
table_stored t schema dims o (grouped {t = s} {below = below} i e u) k q l h =
    let z : OfSchema s.kind = rw i.kind_is (group_kind_lem brace) in
    let stored : IsTable t (at_offset 0 s) (placed 0 below) dims = record {
      kind_is = k;
      opening = o;
      mark_is = q;
      extent_is = l ∙ ap (λ w. t.count * w) (schema_width s below z);
      schema_is = is_placed 0 i;
      width_is = e ∙ sym (width_placed 0 below);
      keyed = members-placed 0 u;
      offsets = offsets_placed 0 u;
      shaped = h;
    } in
    rw (schema_placed s below z)
    (token (λ _. record_table stored) (token (uncut schema_record (group_kind_lem brace).uncut i.kind_is) (members_stored (members-placed 0 u)) (dimensions_stored (shaped_dimensions h))) no_token)

module _ (m : List ℕ) (rows_lent : ℕ) where
  until_stored : (fuel : ℕ) (gap : ℕ → ℕ) (closing : ℕ) (item : Reader) → Gives AllStored item → Gives AllStored (until m fuel gap closing item)
  unfolding until
  until_stored zero gap closing item p at row = other refl
  until_stored (suc fuel) gap closing item p at row = bind_law (any_law _) λ _ _. if_law _ (λ _. holds no_token) λ _.
      seq_stored item (until m fuel gap closing item) p (until_stored fuel gap closing item p) (gap at) row

  scalar_stored : (mark start : ℕ) → Gives AllStored (Scalars.scalar m rows_lent mark start)
  unfolding Scalars.scalar is_cut is_kind
  scalar_stored mark start at row = then_law (any_law _) λ _. bind_law (any_law _) λ _ _. holds (lone refl)

  unmarked_stored : (mark : ℕ) → Gives AllStored (Scalars.unmarked m rows_lent mark)
  unfolding Scalars.unmarked
  unmarked_stored mark at row = bind_law (any_law _) λ _ _. scalar_stored mark at at row

  text_stored : (kind : Kind) (mark : ℕ) → is_cut kind ≡ false → Gives AllStored (Scalars.text m rows_lent kind mark)
  unfolding Scalars.text
  text_stored kind mark c at row = then_law (any_law _) λ _. bind_law (any_law _) λ _ _. bind_law (any_law _) λ _ _. holds (lone c)

  key_stored : Gives AllStored (Scalars.key m rows_lent)
  unfolding Scalars.key is_cut is_kind
  key_stored at row = bind_law (any_law _) λ _ _. then_law (any_law _) λ _. bind_law (any_law _) λ _ _. bind_law (any_law _) λ _ _. holds (lone refl)

  extension_stored : Gives AllStored (Extensions.extension m rows_lent)
  unfolding Extensions.extension is_cut is_kind
  extension_stored at row = then_law (any_law _) λ _. bind_law (any_law _) λ _ _. bind_law (any_law _) λ _ _. then_law (any_law _) λ _.
      bind_law (any_law _) λ _ _. holds (lone refl)

  packed_stored : (mark from : ℕ) → is_type mark ≡ true → Gives AllStored (Containers.packed m rows_lent mark from)
  unfolding Containers.packed Containers.stored
  packed_stored mark from h at row = bind_law (shape_gives m rows_lent true from _) λ n s. then_law (any_law _) λ _. then_law (any_law _) λ _. then_law (any_law _) λ _.
      holds (token (λ _. packed_array (record { kind_is = refl; mark_is = h; extent_is = refl; shaped = s })) (dimensions_stored (shaped_dimensions s)) no_token)

  read_table_stored : (o : Opening) → Gives AllStored (Containers.table m rows_lent o)
  unfolding Containers.table Containers.stored
  read_table_stored o at row = bind_law (table_schema_gives m rows_lent (at + 2) _) λ s g. bind_law (any_law _) λ _ _.
      bind_law (shape_gives m rows_lent false _ _) λ n h. then_law (any_law _) λ _. then_law (any_law _) λ _. then_law (any_law _) λ _. then_law (any_law _) λ _.
      holds (table_stored _ s.0 n.0.dimensions o g refl refl refl h)

  container_stored : (o : Opening) (at start end : ℕ) (below : Forest) → AllStored below → AllStored (Containers.container o at start end below)
  unfolding Containers.container
  container_stored o at start end below u = token (uncut (Containers.container_kind o) (container_uncut o) refl) u no_token

  counted_stored : (o : Opening) (item : Reader) (from : ℕ) → Gives AllStored item → Gives AllStored (Containers.counted m rows_lent o item from)
  unfolding Containers.counted
  counted_stored o item from p at row = bind_law (any_law _) λ n _. bind_law (repeat_stored n.0 item p _ _) λ u h. holds (container_stored o at _ _ _ h)

  plain_stored : (o : Opening) (item : Reader) → Gives AllStored item → Gives AllStored (Containers.plain m rows_lent o item)
  unfolding Containers.plain
  plain_stored o item p at row = bind_law (until_stored _ _ _ item p _ _) λ u h. holds (container_stored o at _ _ _ h)

  typed_as_stored : (o : Opening) (type : ℕ) → is_type type ≡ true → Gives AllStored (Containers.typed_as m rows_lent o type)
  unfolding Containers.typed_as
  typed_as_stored bracket type h at row = packed_stored type (at + 4) h at row
  typed_as_stored brace type h at row = counted_stored brace _ (at + 4) (seq_stored _ _ key_stored (unmarked_stored type)) at row

  typed_stored : (o : Opening) → Gives AllStored (Containers.typed m rows_lent o)
  unfolding Containers.typed
  typed_stored o at row = bind_law (any_law _) λ type _. if_law _ (λ _. read_table_stored o at row) λ _.
      then_law (guard_law _ _ _ refl) λ t. bind_law (any_law _) λ _ _. typed_as_stored o type t at row

  spaced_stored : (item : Reader) → Gives AllStored item → Gives AllStored (spaced m item)
  unfolding spaced
  spaced_stored item p at row = p _ row

  items_stored : (o : Opening) (value : Reader) → Gives AllStored value → Gives AllStored (Containers.items m rows_lent o value)
  unfolding Containers.items
  items_stored bracket value p = p
  items_stored brace value p = seq_stored _ _ key_stored (spaced_stored value p)

  container_by_stored : (value : Reader) → Gives AllStored value → (o : Opening) → Gives AllStored (Containers.container_by m rows_lent value o)
  unfolding Containers.container_by
  container_by_stored value p o at row = then_law (any_law _) λ _. bind_law (any_law _) λ _ _.
      if_law _ (λ _. typed_stored o at row) λ _.
      if_law _ (λ _. counted_stored o _ (at + 2) (spaced_stored _ (items_stored o value p)) at row) λ _.
      plain_stored o _ (items_stored o value p) at row

  module _ (grammar : Grammar) where
    value_by_stored : (nested : Opening → Reader) → ((o : Opening) → Gives AllStored (nested o)) → Gives AllStored (Read.value_by m rows_lent grammar nested)
    unfolding Read.value_by is_cut is_kind
    value_by_stored nested p at row = bind_law (any_law _) λ mark _.
        if_law _ (λ _. scalar_stored mark _ at row) λ _.
        if_law _ (λ _. text_stored _ _ refl at row) λ _.
        if_law _ (λ _. text_stored _ _ refl at row) λ _.
        if_law _ (λ _. p bracket at row) λ _.
        if_law _ (λ _. p brace at row) λ _.
        if_law _ (λ _. extension_stored at row) λ _. other refl

    nested_stored : (levels : ℕ) (o : Opening) → Gives AllStored (Read.nested m rows_lent grammar levels o)
    unfolding Read.nested
    nested_stored zero o at row = other refl
    nested_stored (suc levels) o at row = container_by_stored _ (value_by_stored _ (nested_stored levels)) o at row

    -- a message
    pub read_stored : Holds (Unit {0}) AllStored (Read.read m rows_lent grammar)
    unfolding Read.read
    read_stored = then_law (any_law _) λ _. bind_law (value_by_stored _ (nested_stored _) _ _) λ r h. then_law (any_law _) λ _. holds h
