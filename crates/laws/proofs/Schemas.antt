-- The schemas that reading gives: which tokens stand where, and widths that add up. Assumes nothing.
use Prim.Native.Nat.{ℕ, zero, suc}
use mathlib.Core.Path.{◌≡◌, refl}
use mathlib.Core.Bool.{Bool, true, false}
use mathlib.Core.List.{List}
use lib.Dec.{eqb}
use borrow.Author.Tests.{eq-eqb}
use Rattle.format.specs.Conditions.{among}
use Rattle.format.specs.Marks.{Opening, bracket, brace, opens, integers, types, is_plain_leaf, is_leaf, 'S'}
use Rattle.format.specs.Tokens.{Token, Kind, key as kind_of_key, leaf as kind_of_leaf, plain_count, Forest, none, node, ◌⊕◌}
use Rattle.format.specs.Records.{total_width}
use Rattle.format.specs.Sequences.{Reader, ◌⨾◌, until}
use Rattle.format.specs.Scalars as Scalars
use Rattle.format.specs.Schemas as Schemas
pub use Rattle.laws.specs.Groups.{group_kind}
use Rattle.laws.proofs.Holds.{Holds, holds, bind_law, then_law, if_law, seq_law, other, any_law, weaken}

-- a token of this kind, with such a mark, that has no order
pub record Is (kind : Kind) (marks : ℕ → Bool) (t : Token) : Type 0 where
  pub kind_is : t.kind ≡ kind
  pub mark_is : marks t.mark ≡ true
  pub order_is : t.order ≡ plain_count

-- the members of a schema have keys, those of a fixed array none
abbrev pub keyed : Opening → Bool
keyed bracket = false
keyed brace = true

-- members, with keys or without; with them, a key comes first, and then a kind is due
pub data Members : Bool → Bool → Forest → Type 0 where
  no_more : {k : Bool} → Members k false none
  key : {t : Token} {after : Forest} → Is kind_of_key (eqb 'S') t → Members true true after → Members true false (node t none after)
  leaf : {k : Bool} {t : Token} {after : Forest} → Is kind_of_leaf is_leaf t → Members k false after → Members k k (node t none after)
  group : {k : Bool} (o : Opening) {t : Token} {below after : Forest} → Is (group_kind o) (eqb (opens o)) t → t.extent ≡ total_width below
      → Members (keyed o) false below → Members k false after → Members k k (node t below after)

pub members_append : {k due : Bool} {f g : Forest} → Members k due f → Members k false g → Members k due (f ⊕ g)
unfolding ◌⊕◌
members_append no_more q = q
members_append (key i r) q = key i (members_append r q)
members_append (leaf i r) q = leaf i (members_append r q)
members_append (group o i e u r) q = group o i e u (members_append r q)

-- one kind: members by itself, with keys or without
abbrev pub OneKind : Forest → Type 0
OneKind f = (k : Bool) → Members k k f

-- one schema or fixed array
pub data Group (o : Opening) : Forest → Type 0 where
  grouped : {t : Token} {below : Forest} → Is (group_kind o) (eqb (opens o)) t → t.extent ≡ total_width below → Members (keyed o) false below → Group o (node t below none)

pub group_one : {o : Opening} {f : Forest} → Group o f → OneKind f
group_one {o} (grouped i e u) k = group o i e u no_more

-- what a reader gives
abbrev pub Gives : (Forest → Type 0) → Reader → Type 0
Gives P reader = (at row : ℕ) → Holds (Unit {0}) (λ r. P r.0) (reader at row)

module _ (m : List ℕ) (rows_lent : ℕ) where
  pub key_gives : (kind : Reader) → Gives OneKind kind → Gives (Members true false) (Scalars.key m rows_lent ⨾ kind)
  unfolding Scalars.key ◌⊕◌
  key_gives kind g at row = seq_law {Q = λ r. (after : Forest) → Members true true after → Members true false (r.0 ⊕ after)} _ kind at row
      (bind_law (any_law _) λ _ _. then_law (any_law _) λ _. bind_law (any_law _) λ _ _. bind_law (any_law _) λ _ _.
      holds (λ _ r. key (record { kind_is = refl; mark_is = refl; order_is = refl }) r))
      λ f hf. weaken (λ r hr. hf r.0 (hr true)) (g _ _)

  pub until_gives : (k : Bool) (fuel : ℕ) (gap : ℕ → ℕ) (closing : ℕ) (item : Reader) → Gives (Members k false) item
      → Gives (Members k false) (until m fuel gap closing item)
  unfolding until
  until_gives k zero gap closing item g at row = other refl
  until_gives k (suc fuel) gap closing item g at row = bind_law (any_law _) λ _ _. if_law _ (λ _. holds no_more) λ _.
      seq_law item _ (gap at) row (g (gap at) row) λ f hf. weaken (λ _ hg. members_append hf hg) (until_gives k fuel gap closing item g _ _)

  enclosed_gives : (o : Opening) (item : Reader) → Gives (Members (keyed o) false) item → Gives (Group o) (Schemas.enclosed m rows_lent (group_kind o) o item)
  unfolding Schemas.enclosed Schemas.group
  enclosed_gives o item g at row =
      bind_law
      (seq_law {P = λ r. Members (keyed o) false r.0} item _ _ _ (g _ _) λ f hf. weaken (λ _ hg. members_append hf hg) (until_gives _ _ _ _ item g _ _))
      λ _ hu. holds (grouped (record { kind_is = refl; mark_is = eq-eqb (opens o) _ refl; order_is = refl }) refl hu)

  leaf_gives : (mark at w : ℕ) → is_leaf mark ≡ true → OneKind (Schemas.leaf mark at w)
  unfolding Schemas.leaf
  leaf_gives mark at w h k = leaf (record { kind_is = refl; mark_is = h; order_is = refl }) no_more

  plain_leaf_lem : (mark : ℕ) → is_plain_leaf mark ≡ true → is_leaf mark ≡ true
  unfolding is_leaf
  plain_leaf_lem mark h = rw h

  text_leaf_lem : is_leaf 'S' ≡ true
  unfolding is_leaf is_plain_leaf among types integers
  text_leaf_lem = refl

  pub kind_by_gives : (nested : Opening → Reader) → ((o : Opening) → Gives (Group o) (nested o)) → Gives OneKind (Schemas.kind_by m rows_lent nested)
  unfolding Schemas.kind_by Schemas.plain_leaf Schemas.text_leaf
  kind_by_gives nested g at row = bind_law (any_law _) λ mark _.
      if_law _ (λ h. then_law (any_law _) λ _. holds (leaf_gives mark at _ (plain_leaf_lem mark h))) λ _.
      if_law _ (λ _. then_law (any_law _) λ _. bind_law (any_law _) λ _ _. holds (leaf_gives 'S' at _ text_leaf_lem)) λ _.
      if_law _ (λ _. other refl) λ _.
      if_law _ (λ _. weaken (λ _ h. group_one h) (g bracket at row)) λ _.
      if_law _ (λ _. weaken (λ _ h. group_one h) (g brace at row)) λ _. other refl

  pub nested_gives : (levels : ℕ) (o : Opening) → Gives (Group o) (Schemas.nested m rows_lent levels o)
  unfolding Schemas.nested Schemas.group_by Schemas.schema Schemas.fixed
  nested_gives zero o at row = other refl
  nested_gives (suc levels) bracket at row = then_law (any_law _) λ _. bind_law (any_law _) λ _ _. then_law (any_law _) λ _.
      enclosed_gives bracket _ (λ a r. weaken (λ _ h. h false) (kind_by_gives _ (nested_gives levels) a r)) at row
  nested_gives (suc levels) brace at row = then_law (any_law _) λ _. enclosed_gives brace _ (key_gives _ (kind_by_gives _ (nested_gives levels))) at row

  -- a table's schema is one
  pub table_schema_gives : Gives (Group brace) (Schemas.table_schema m rows_lent)
  unfolding Schemas.table_schema
  table_schema_gives = nested_gives _ brace
