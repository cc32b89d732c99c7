-- The twelve checked examples of 01 hold of the definitions, by both editions, and so do those of extensions: one claim over the set,
-- which antt computes. Assumes nothing.
use mathlib.Core.Path.{◌≡◌, refl}
use mathlib.Core.Bool.{true, ◌&&◌}
use Rattle.format.specs.Conditions as Conditions
use Rattle.format.specs.Outcome as Outcome
use Rattle.format.specs.Marks as Marks
use Rattle.format.specs.Text as Text
use Rattle.format.specs.JsonNumber as JsonNumber
use Rattle.format.specs.Tokens as Tokens
use Rattle.format.specs.Rows as Rows
use Rattle.format.specs.Records as Records
use Rattle.format.specs.Indexes as Indexes
use Rattle.format.specs.Storage as Storage
use Rattle.format.specs.Bytes as Bytes
use Rattle.format.specs.Content as Content
use Rattle.format.specs.Integers as Integers
use Rattle.format.specs.Sequences as Sequences
use Rattle.format.specs.Scalars as Scalars
use Rattle.format.specs.Dimensions as Dimensions
use Rattle.format.specs.Schemas as Schemas
use Rattle.format.specs.Containers as Containers
use Rattle.format.specs.Read as Read
use Rattle.format.specs.Addresses as Addresses
use Rattle.format.specs.HouseForm as HouseForm
use Rattle.format.specs.SameMeaning as SameMeaning
use Rattle.format.specs.Examples as Examples
use Rattle.format.specs.Grammars.{old, new}
use Rattle.format.specs.Extensions as Extensions
use Rattle.format.specs.Examples.{all_meet, all_differ, examples, extensions, no_extensions, different}

pub examples_hold :
    (all_meet old examples && all_meet new examples && all_meet old no_extensions && all_meet new extensions && all_differ new different) ≡ true
unfolding Conditions.when◌then◌else◌ Conditions.among Conditions.all Conditions.between Conditions.same Outcome.◌>>=◌ Outcome.◌>>◌ Outcome.guard Marks.opens Marks.closes Marks.integers Marks.is_integer Marks.signed_integers Marks.is_signed Marks.types Marks.is_type Marks.is_scalar Marks.is_plain_leaf Marks.is_leaf Marks.is_boolean Marks.width Marks.leaf_width Text.shaped Text.is_text JsonNumber.is_digit JsonNumber.leading JsonNumber.after_fraction JsonNumber.after_whole JsonNumber.step JsonNumber.ends JsonNumber.numeral JsonNumber.is_number Tokens.size Tokens.◌⊕◌ Tokens.below_first Tokens.after_first Tokens.is_kind Tokens.members Tokens.counts Rows.layout Rows.word Rows.row_at Rows.rows_in Rows.held_by Rows.row_of Rows.rows Rows.words_of Rows.all_rows Rows.all_words Records.member_width Records.total_width Records.at_offset Records.placed Indexes.product Indexes.in_range Indexes.count_from Indexes.last_number Indexes.first_number Indexes.number_in Storage.end_to_end Storage.elements Storage.leaves Storage.by_rows Storage.by_columns Storage.records Bytes.little Bytes.leading_noops Bytes.within Bytes.bytes Bytes.skip Bytes.reach Bytes.byte Bytes.one_of Content.is_content Content.content Content.contents Content.payload_end Integers.is_negative Integers.smallest Integers.number Integers.integer_to Sequences.row_left Sequences.◌⨾◌ Sequences.repeat Sequences.until Sequences.spaced Scalars.scalar Scalars.unmarked Scalars.text Scalars.key Dimensions.shaped Dimensions.dimension Dimensions.marked Dimensions.bare Dimensions.listed Dimensions.counted Dimensions.counted_bare Dimensions.vector Dimensions.slowest Dimensions.fastest Dimensions.plain Dimensions.shape Schemas.leaf Schemas.group Schemas.plain_leaf Schemas.text_leaf Schemas.enclosed Schemas.schema Schemas.fixed Schemas.kind_by Schemas.group_by Schemas.nested Schemas.table_schema Containers.container_kind Containers.container Containers.stored Containers.packed Containers.table Containers.counted Containers.plain Containers.typed_as Containers.typed Containers.items Containers.container_by Extensions.size_of Extensions.may_have Extensions.id_bytes Extensions.extension Read.value_by Read.nested Read.read Addresses.is_a Addresses.is_packed Addresses.is_table Addresses.is_key Addresses.is_leaf_row Addresses.is_schema Addresses.is_fixed Addresses.is_member Addresses.is_dimension Addresses.child_of Addresses.along Addresses.dimensions_from Addresses.dimensions Addresses.seek Addresses.inside Addresses.packed_slot Addresses.table_slot HouseForm.digits HouseForm.small_integer HouseForm.shape HouseForm.table_form HouseForm.whole HouseForm.payload_of HouseForm.token HouseForm.written HouseForm.house Read.read_whole Examples.starts_at Examples.holds Examples.refused_as Examples.meets Examples.all_meet Examples.counting Examples.differ Examples.all_differ SameMeaning.free SameMeaning.kept SameMeaning.has_bytes SameMeaning.row_meaning
examples_hold = refl
