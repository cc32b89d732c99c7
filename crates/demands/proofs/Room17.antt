-- A case of demand 3: a ward's table of two rooms, and the same message with room 17's mark changed. So what the demand asks of messages can
-- be met, and the one address that it leaves out reads something else. Assumes nothing.
use Prim.Native.Nat.{ℕ}
use mathlib.Core.Path.{◌≡◌, refl}
use mathlib.Core.Bool.{Bool, true, false}
use mathlib.Core.List.{List, [], ◌∷◌}
use mathlib.Core.Logic.{inl, inr}
use native.Mathlib.Omega.{arith}
use lib.ListN.{set, length-set}
use lib.Seq.{get_or-set_other}
use Rattle.format.specs.Grammars.{new}
use Rattle.format.specs.Conditions as Conditions
use Rattle.format.specs.Outcome as Outcome
use Rattle.format.specs.Outcome.{Outcome, done}
use Rattle.format.specs.Marks as Marks
use Rattle.format.specs.Text as Text
use Rattle.format.specs.Tokens as Tokens
use Rattle.format.specs.Tokens.{leaf}
use Rattle.format.specs.Rows as Rows
use Rattle.format.specs.Rows.{zeros}
use Rattle.format.specs.Records as Records
use Rattle.format.specs.Indexes as Indexes
use Rattle.format.specs.Storage as Storage
use Rattle.format.specs.Bytes as Bytes
use Rattle.format.specs.Content as Content
use Rattle.format.specs.Integers as Integers
use Rattle.format.specs.Sequences as Sequences
use Rattle.format.specs.Scalars as Scalars
use Rattle.format.specs.Dimensions as Dimensions
use Rattle.format.specs.Schemas as Schemas
use Rattle.format.specs.Containers as Containers
use Rattle.format.specs.Read as Read
use Rattle.format.specs.Addresses as Addresses
use Rattle.format.specs.Values as Values
use Rattle.format.specs.Values.{Scalar, boolean}
use Rattle.storage.specs.Addresses as Named
use Rattle.storage.specs.Addresses.{Address, in_table}
use Rattle.changed.specs.Alike.{Alike}
use Rattle.demands.specs.Reads as Reads
use Rattle.demands.specs.Reads.{after_reading, value_at}
use Rattle.demands.specs.Demand3.{Unchanged}
use Rattle.demands.proofs.Demand3.{demand3}

-- a table by rows, of a number `room` and a boolean `mark`: room 16, heard, and room 17, not heard
abbrev ward : List ℕ
ward =
    0x5B ∷ 0x24 ∷ 0x7B ∷ 0x55 ∷ 0x04 ∷ 0x72 ∷ 0x6F ∷ 0x6F ∷ 0x6D ∷ 0x55 ∷ 0x55 ∷ 0x04 ∷ 0x6D ∷ 0x61 ∷ 0x72 ∷ 0x6B ∷ 0x54 ∷ 0x7D ∷ 0x23 ∷ 0x55 ∷ 0x02
    ∷ 16 ∷ 0x54 ∷ 17 ∷ 0x46 ∷ []

-- and the same with room 17 heard: byte 24 is `T`
abbrev heard : List ℕ
heard = set ward 24 0x54

-- six rows are lent
abbrev lent : List ℕ
lent = zeros 60

-- the address of room 17's mark: the table's row, the leaf's, and the number of its record
abbrev room17 : Address
room17 = in_table 0 5 (1 ∷ [])

-- they differ in byte 24 alone
alike : Alike ward heard 24 1
alike = record {
  long = length-set ward 24 0x54;
  outside = λ i a. get_or-set_other ward 24 i 0x54 0 (λ e. elim a [ inl h ↦ omega arith | inr h ↦ omega arith ]);
}

-- a boolean of a table, as the value call answers it
abbrev answer : Bool → Outcome Scalar
answer b = done (record { kind = leaf; value = boolean b })

-- Room 17's mark reads as false, and then as true; and all that demand 3 says of such a change holds.
pub room_17 : (value_at ward (after_reading ward lent new) room17 ≡ answer false) × (value_at heard (after_reading heard lent new) room17 ≡ answer true)
    × Unchanged ward lent new room17 heard lent
unfolding Conditions.when◌then◌else◌ Conditions.among Conditions.all Outcome.◌>>=◌ Outcome.◌>>◌ Outcome.guard Marks.opens Marks.closes Marks.integers Marks.is_integer Marks.signed_integers Marks.is_signed Marks.types Marks.is_scalar Marks.is_plain_leaf Marks.is_leaf Marks.is_boolean Marks.width Marks.leaf_width Text.is_text Text.shaped Content.is_content Content.content Content.contents Content.payload_end Tokens.size Tokens.◌⊕◌ Tokens.below_first Tokens.is_kind Rows.layout Rows.word Rows.row_at Rows.rows_in Rows.held_by Rows.row_of Rows.rows Rows.words_of Rows.all_rows Rows.all_words Rows.filled Records.member_width Records.total_width Records.at_offset Records.placed Indexes.product Indexes.in_range Indexes.count_from Indexes.last_number Indexes.number_in Storage.end_to_end Storage.leaves Storage.by_rows Storage.records Bytes.little Bytes.leading_noops Bytes.within Bytes.bytes Bytes.skip Bytes.reach Bytes.byte Bytes.one_of Integers.is_negative Integers.number Integers.integer_to Sequences.row_left Sequences.◌⨾◌ Sequences.until Scalars.key Dimensions.plain Dimensions.shape Schemas.leaf Schemas.group Schemas.plain_leaf Schemas.enclosed Schemas.schema Schemas.kind_by Schemas.group_by Schemas.nested Schemas.table_schema Containers.stored Containers.table Containers.typed Containers.container_by Read.value_by Read.nested Read.read Read.read_into Read.words_after Addresses.is_a Addresses.is_table Addresses.is_key Addresses.is_leaf_row Addresses.is_schema Addresses.is_member Addresses.child_of Addresses.along Addresses.dimensions Addresses.seek Addresses.inside Addresses.table_slot Values.value_of Values.scalar_at Values.value_in_table Named.call Reads.value_at
room_17 = (
  refl,
  refl,
  (demand3 ward lent new _ refl).changes room17 (record { mark = 0x54; first = 24; wide = 1 }) refl heard lent
      (record { alike = alike; as_many_lent = refl; tokens = _; accepted = refl }),
)
