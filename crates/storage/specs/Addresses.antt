-- 01, "Addresses and values": what an address is, what it names in the tokens of a message, and when it is in range.
use Rattle.std.specs.Prelude.{ℕ, ◌+◌, ◌<◌, ◌≡◌, List, [], ◌∷◌}
use Rattle.format.specs.Conditions.{when◌then◌else◌}
use Rattle.format.specs.Outcome.{Outcome}
use Rattle.format.specs.Tokens.{Token, packed, table, leaf, is_kind, Forest, below_first}
use Rattle.format.specs.Storage.{Slot, member_row, dimensions_of}
use Rattle.format.specs.Addresses.{Region, packed_slot, table_slot}
use Rattle.laws.specs.Places.{At}

-- a slot is named by a packed row and indexes, or a table row, a leaf row and indexes
pub data Address : Type 0 where
  in_packed : ℕ → List ℕ → Address
  in_table : ℕ → ℕ → List ℕ → Address

unfoldable pub indexes_of : Address → List ℕ
indexes_of (in_packed row is) = is
indexes_of (in_table row leaf_row is) = is

-- what the address calls answer, given the words of the rows and how many bytes the message has
unfoldable pub call : List ℕ → ℕ → Address → Outcome Region
call ws message_bytes (in_packed row is) = packed_slot ws message_bytes row is
call ws message_bytes (in_table row leaf_row is) = table_slot ws message_bytes row leaf_row is

-- the address of a slot of the token at this row, and its region: slots count from the payload's first byte
unfoldable pub address_of : ℕ → Token → Slot (List ℕ) → Address
address_of row t s = when is_kind packed t.kind then in_packed row s.element else in_table row s.leaf_row s.element

unfoldable pub region_of : Token → Slot (List ℕ) → Region
region_of t s = record { mark = s.mark; first = t.payload + s.offset; wide = s.wide }

-- an address names a packed row, or a table row and a leaf of its schema: that row, its token, and those below it
pub data Names (f : Forest) : Address → ℕ → Token → Forest → Type 0 where
  packed_row : {row : ℕ} {is : List ℕ} {t : Token} {below : Forest} → At 0 f row t below → t.kind ≡ packed → Names f (in_packed row is) row t below
  table_leaf : {row leaf_row : ℕ} {is : List ℕ} {t l : Token} {below v : Forest} → At 0 f row t below → t.kind ≡ table
      → At (member_row row) (below_first below) leaf_row l v → l.kind ≡ leaf → Names f (in_table row leaf_row is) row t below

-- one index for each dimension, below it
pub data Below : List ℕ → List ℕ → Type 0 where
  no_index : Below [] []
  index : {i d : ℕ} {is ds : List ℕ} → i < d → Below is ds → Below (i ∷ is) (d ∷ ds)

-- an address is in range if it names such a row and has one index, below word 5, for a plain count, else one for each dimension
-- row, below that row's word 5
pub data InRange (f : Forest) (a : Address) : Type 0 where
  is_in_range : {row : ℕ} {t : Token} {below : Forest} → Names f a row t below → Below (indexes_of a) (dimensions_of t below) → InRange f a
