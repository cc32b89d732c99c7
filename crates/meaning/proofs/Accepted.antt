-- What is known of the tokens of an accepted message: all that it takes to write them in house form and have them accepted again.
-- Assumes nothing.
use Prim.Native.Nat.{ℕ, suc, ◌+◌, ◌*◌, ◌≤◌}
use mathlib.Core.Path.{◌≡◌, refl}
use mathlib.Core.Bool.{Bool, true, false}
use mathlib.Core.List.{List}
use native.Mathlib.Omega.{arith}
use lib.ListN.{length, get_or}
use Rattle.format.specs.Conditions.{when◌then◌else◌}
use Rattle.format.specs.Outcome.{done}
use Rattle.format.specs.Limits.{limit, id_limit, record_limit, schema_levels}
use Rattle.format.specs.Marks.{Opening, bracket, brace, opens, is_type, is_scalar, is_plain_leaf, width, leaf_width, is_integer, 'S', 'H', 'E'}
use Rattle.format.specs.Tokens.{Token, scalar as kind_of_scalar, text as kind_of_text, high_precision, key as kind_of_key, packed as kind_of_packed, table as kind_of_table, dimension as kind_of_dimension, plain_count, is_kind, Forest, none, alone, uncounted, ◌⊕◌, below_first, members}
use Rattle.format.specs.Records.{total_width, placed}
use Rattle.format.specs.Indexes.{below}
use Rattle.format.specs.Storage.{Slot, member_row, elements, records}
use Rattle.format.specs.Grammars.{Grammar}
use Rattle.format.specs.Bytes.{little, bytes}
use Rattle.format.specs.Integers.{is_negative}
use Rattle.format.specs.Extensions.{may_have, extension_token}
use Rattle.format.specs.Content.{contents}
use Rattle.format.specs.Dimensions.{Shape}
use Rattle.format.specs.Schemas as Schemas
use Rattle.format.specs.Containers as Containers
use Rattle.format.proofs.Forests.{members_append}
use Rattle.laws.proofs.Schemas.{group_kind, keyed, Members, Group}
use Rattle.laws.proofs.Counts.{Shaped, highest_order}
use Rattle.meaning.proofs.Known.{Content}

-- what tokens are: a value or a kind, with so many levels of nesting left; a schema or fixed array; one after another; with `N` before
pub data Sort : Type 0 where
  value : ℕ → Sort
  key : Sort
  kind : ℕ → Sort
  group : ℕ → Opening → Sort
  dimension : Sort
  pair : Sort → Sort → Sort
  spaced : Sort → Sort

-- one of them, or any number side by side
pub data Number : Type 0 where
  one many : Number

-- what an array or object without a type holds
abbrev pub items : ℕ → Opening → Sort
items levels bracket = spaced (value levels)
items levels brace = spaced (pair key (spaced (value levels)))

-- what a fixed array or schema holds
abbrev pub fields : ℕ → Opening → Sort
fields levels bracket = kind levels
fields levels brace = pair key (kind levels)

-- a dimension's token
abbrev pub dimension_token : ℕ → ℕ → ℕ → ℕ → Token
dimension_token mark at start n =
    record { kind = kind_of_dimension; mark = mark; first = at; payload = start; extent = width mark; count = n; order = plain_count }

-- how many members they are: a key is none
unfoldable pub weight : Sort → ℕ
weight (value levels) = 1
weight key = 0
weight (kind levels) = 1
weight (group levels o) = 1
weight dimension = 1
weight (pair s t) = weight s + weight t
weight (spaced s) = weight s

module _ (m : List ℕ) where
  -- a payload of n bytes, cut into slots of right content
  pub record Filled (start n : ℕ) (slots : List (Slot ℕ)) : Type 0 where
    pub inside : start + n ≤ length m
    pub right : contents m start slots ≡ done tt

  -- a count within the limit, with its dimensions
  pub record Counted (may_wrap : Bool) (n : Shape) : Type 0 where
    pub shaped : Shaped (highest_order may_wrap) n.order n.many n.dimensions
    pub few : n.many ≤ limit

  -- the id of the extension that begins at a place
  pub record HasId (at id : ℕ) : Type 0 where
    pub integer : is_integer (get_or m (at + 1) 0) ≡ true
    pub inside : at + 2 + width (get_or m (at + 1) 0) ≤ length m
    pub number : little (bytes m (at + 2) (width (get_or m (at + 1) 0))) ≡ id
    pub unsigned : is_negative (get_or m (at + 1) 0) id ≡ false
    pub low : id ≤ id_limit

module _ (m : List ℕ) (grammar : Grammar) where
  pub data Accepted : Number → Sort → Forest → Type 0 where
    stop : {s : Sort} → Accepted many s none
    more : {s : Sort} {f g : Forest} → weight s ≡ 1 → Accepted one s f → Accepted many s g → Accepted many s (f ⊕ g)
    both : {s t : Sort} {f g : Forest} → Accepted one s f → Accepted one t g → Accepted one (pair s t) (f ⊕ g)
    apart : {s : Sort} {f : Forest} → Accepted one s f → Accepted one (spaced s) f
    a_scalar : (levels mark at start : ℕ) → is_scalar mark ≡ true → Content m mark start (width mark)
        → Accepted one (value levels) (alone (uncounted kind_of_scalar mark at start (width mark)))
    a_text : (levels at start n : ℕ) → n ≤ limit → Content m 'S' start n → Accepted one (value levels) (alone (uncounted kind_of_text 'S' at start n))
    a_number : (levels at start n : ℕ) → n ≤ limit → Content m 'H' start n → Accepted one (value levels) (alone (uncounted high_precision 'H' at start n))
    an_extension : (levels id at start n : ℕ) → grammar.extensions ≡ true → HasId m at id → n ≤ limit → may_have id n ≡ true → Content m 'E' start n
        → Accepted one (value levels) (alone (extension_token id at start n))
    a_key : (at start n : ℕ) → n ≤ limit → Content m 'S' start n → Accepted one key (alone (uncounted kind_of_key 'S' at start n))
    a_container : (levels : ℕ) (o : Opening) (at start end : ℕ) {under : Forest} → Accepted many (items levels o) under
        → Accepted one (value (suc levels)) (Containers.container o at start end under)
    a_dimension : (mark at start n : ℕ) → n ≤ limit → Accepted one dimension (alone (dimension_token mark at start n))
    a_packed : (levels mark at start row : ℕ) (n : Shape) → is_type mark ≡ true → Counted m true n → Accepted many dimension n.dimensions
        → Filled m start (n.many * width mark) (elements row mark (below n.many))
        → Accepted one (value (suc levels)) (Containers.stored kind_of_packed mark at start (n.many * width mark) n n.dimensions)
    a_leaf : (levels mark at : ℕ) → is_plain_leaf mark ≡ true → Accepted one (kind levels) (Schemas.leaf mark at (leaf_width mark))
    a_text_leaf : (levels at n : ℕ) → n ≤ limit → Accepted one (kind levels) (Schemas.leaf 'S' at n)
    a_kind : {levels : ℕ} (o : Opening) {f : Forest} → Accepted one (group levels o) f → Accepted one (kind levels) f
    a_group : (levels : ℕ) (o : Opening) (at : ℕ) {f g : Forest} → Members (keyed o) false (f ⊕ g) → Accepted one (fields levels o) f
        → Accepted many (fields levels o) g → Accepted one (group (suc levels) o) (Schemas.group (group_kind o) o at (f ⊕ g))
    a_table : (levels : ℕ) (o : Opening) (at start row : ℕ) {s : Forest} (n : Shape) → Accepted one (group schema_levels brace) s → Group brace s
        → total_width s ≤ record_limit → Counted m false n → Accepted many dimension n.dimensions
        → Filled m start (n.many * total_width s) (records o (member_row row) (below_first s) (below n.many))
        → Accepted one (value (suc levels)) (Containers.stored kind_of_table (opens o) at start (n.many * total_width s) n (placed 0 s ⊕ n.dimensions))

  container_counts : (o : Opening) (at start end : ℕ) (under : Forest) → members (Containers.container o at start end under) ≡ 1
  unfolding Containers.container Containers.container_kind members is_kind when◌then◌else◌
  container_counts bracket at start end under = refl
  container_counts brace at start end under = refl

  group_counts : (o : Opening) (at : ℕ) (under : Forest) → members (Schemas.group (group_kind o) o at under) ≡ 1
  unfolding Schemas.group members is_kind when◌then◌else◌
  group_counts bracket at under = refl
  group_counts brace at under = refl

  -- so many members
  pub accepted_members : {s : Sort} {f : Forest} → Accepted one s f → members f ≡ weight s
  unfolding members weight is_kind when◌then◌else◌ Containers.stored Schemas.leaf
  accepted_members (both {f = f} {g = g} p q) = let x = accepted_members p in let y = accepted_members q in omega (arith, members_append f g)
  accepted_members (apart p) = accepted_members p
  accepted_members (a_scalar _ _ _ _ _ _) = refl
  accepted_members (a_text _ _ _ _ _ _) = refl
  accepted_members (a_number _ _ _ _ _ _) = refl
  accepted_members (an_extension _ _ _ _ _ _ _ _ _ _) = refl
  accepted_members (a_key _ _ _ _ _) = refl
  accepted_members (a_container _ o at start end {under = under} _) = container_counts o at start end under
  accepted_members (a_dimension _ _ _ _ _) = refl
  accepted_members (a_packed _ _ _ _ _ _ _ _ _ _) = refl
  accepted_members (a_leaf _ _ _ _) = refl
  accepted_members (a_text_leaf _ _ _ _) = refl
  accepted_members (a_kind o p) = accepted_members p
  accepted_members (a_group _ o at {f = f} {g = g} _ _ _) = group_counts o at (f ⊕ g)
  accepted_members (a_table _ _ _ _ _ _ _ _ _ _ _ _) = refl
