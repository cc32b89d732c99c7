-- A case of demand 2 and of the rows needed: the table of document 01's example 12, which needs six rows. Assumes nothing.
use Prim.Native.Nat.{ℕ}
use mathlib.Core.Path.{◌≡◌, refl}
use mathlib.Core.List.{List, [], ◌∷◌}
use Rattle.format.specs.Grammars.{new}
use Rattle.format.specs.Refusals.{no_row_left}
use Rattle.format.specs.Outcome.{fault, done}
use Rattle.format.specs.Tokens.{Forest}
use Rattle.format.specs.Rows.{zeros}
use Rattle.format.specs.Panel.{rows_needed}
use Rattle.format.specs.Read.{read_into}
use Rattle.format.specs.Conditions as Conditions
use Rattle.format.specs.Outcome as Outcome
use Rattle.format.specs.Marks as Marks
use Rattle.format.specs.Text as Text
use Rattle.format.specs.Tokens as Tokens
use Rattle.format.specs.Rows as Rows
use Rattle.format.specs.Records as Records
use Rattle.format.specs.Indexes as Indexes
use Rattle.format.specs.Storage as Storage
use Rattle.format.specs.Bytes as Bytes
use Rattle.format.specs.Content as Content
use Rattle.format.specs.Integers as Integers
use Rattle.format.specs.Sequences as Sequences
use Rattle.format.specs.Scalars as Scalars
use Rattle.format.specs.Dimensions as Dimensions
use Rattle.format.specs.Schemas as Schemas
use Rattle.format.specs.Containers as Containers
use Rattle.format.specs.Read as Read
use Rattle.demands.specs.Demand2.{Demand2}
use Rattle.demands.specs.RowsNeeded.{RowsNeeded}
use Rattle.demands.proofs.Demand2.{demand2}
use Rattle.demands.proofs.RowsNeeded.{panel_rows_needed}

-- a table by rows, of a number `a` and a boolean `b`: two records
abbrev message : List ℕ
message =
    0x5B ∷ 0x24 ∷ 0x7B ∷ 0x55 ∷ 0x01 ∷ 0x61 ∷ 0x55 ∷ 0x55 ∷ 0x01 ∷ 0x62 ∷ 0x54 ∷ 0x7D ∷ 0x23 ∷ 0x55 ∷ 0x02 ∷ 0x05 ∷ 0x54 ∷ 0x06 ∷ 0x46 ∷ []

-- It needs six rows, and all that is said of them holds; with five it is refused at its last token, the leaf `b`, whose mark is byte 10.
-- With six it is accepted, and demand 2 holds of it.
pub example_12 : (rows_needed message ≡ done 6) × RowsNeeded message new 6 × (read_into message (zeros 50) new ≡ fault no_row_left 10)
    × (f : Forest) × Demand2 message (zeros 60) (zeros 19) new f
unfolding Conditions.when◌then◌else◌ Conditions.among Conditions.all Outcome.◌>>=◌ Outcome.◌>>◌ Outcome.guard Marks.opens Marks.closes Marks.integers Marks.is_integer Marks.signed_integers Marks.is_signed Marks.types Marks.is_scalar Marks.is_plain_leaf Marks.is_boolean Marks.width Marks.leaf_width Text.is_text Text.shaped Content.is_content Content.content Content.contents Content.payload_end Tokens.size Tokens.◌⊕◌ Tokens.below_first Tokens.is_kind Tokens.members Rows.rows_in Records.member_width Records.total_width Records.at_offset Records.placed Indexes.product Indexes.count_from Storage.end_to_end Storage.leaves Storage.by_rows Storage.records Bytes.little Bytes.leading_noops Bytes.bytes Bytes.skip Bytes.reach Bytes.byte Bytes.one_of Integers.is_negative Integers.number Integers.integer_to Sequences.row_left Sequences.◌⨾◌ Sequences.until Scalars.scalar Scalars.text Scalars.key Dimensions.plain Dimensions.shape Schemas.leaf Schemas.group Schemas.plain_leaf Schemas.enclosed Schemas.schema Schemas.kind_by Schemas.group_by Schemas.nested Schemas.table_schema Containers.container_kind Containers.container Containers.stored Containers.table Containers.plain Containers.items Containers.typed Containers.container_by Read.value_by Read.nested Read.read Read.read_into Read.read_whole Read.rows_used
example_12 = (refl, panel_rows_needed message 6 refl, refl, _, demand2 message (zeros 60) (zeros 19) new _ refl)
