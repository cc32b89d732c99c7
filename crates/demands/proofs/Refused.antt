-- A message for each number that reading refuses with, and one that only rewriting refuses: none of demand 1's refusals is idle. Assumes
-- nothing.
use Prim.Native.Nat.{ℕ, suc}
use mathlib.Core.Path.{◌≡◌, refl}
use mathlib.Core.Bool.{false}
use mathlib.Core.List.{List, [], ◌∷◌}
use lib.ListN.{replicate, length-replicate}
use lib.Dec.{leb}
use Rattle.format.specs.Grammars.{new}
use Rattle.format.specs.Limits.{limit}
use Rattle.format.specs.Refusals.{message_too_long, ends_too_early, not_allowed, wrong_content, over_limit, wrong_integer, too_deep, no_row_left, bytes_after, output_too_long, not_built}
use Rattle.format.specs.Outcome.{fault}
use Rattle.format.specs.Rows.{zeros}
use Rattle.format.specs.Read.{read_into}
use Rattle.format.specs.HouseForm as HouseForm
use Rattle.format.specs.Conditions as Conditions
use Rattle.format.specs.Outcome as Outcome
use Rattle.format.specs.Marks as Marks
use Rattle.format.specs.Text as Text
use Rattle.format.specs.Tokens as Tokens
use Rattle.format.specs.Rows as Rows
use Rattle.format.specs.Records as Records
use Rattle.format.specs.Indexes as Indexes
use Rattle.format.specs.Storage as Storage
use Rattle.format.specs.Bytes as Bytes
use Rattle.format.specs.Content as Content
use Rattle.format.specs.Integers as Integers
use Rattle.format.specs.Sequences as Sequences
use Rattle.format.specs.Scalars as Scalars
use Rattle.format.specs.Dimensions as Dimensions
use Rattle.format.specs.Schemas as Schemas
use Rattle.format.specs.Containers as Containers
use Rattle.format.specs.Read as Read
use Rattle.demands.specs.Rewrites.{rewrite_into}

-- reading a message, with so many words lent, is refused so
abbrev Refuses : List ℕ → ℕ → ℕ → ℕ → Type 0
Refuses m words n place = read_into m (zeros words) new ≡ fault n place

-- a message of more bytes than the limit
over_limit_lem : (n : ℕ) → leb n limit ≡ false → Refuses (zeros n) 0 message_too_long 0
unfolding Outcome.◌>>◌ Outcome.guard Read.read Read.read_into
over_limit_lem n e = rw (length-replicate {A = ℕ} n 0, e)

-- one byte too many; no byte; `]`; a char of 128; a length of 2,097,152, and of -1; 33 levels; a null without a row, and one after a null; a
-- schema with an `H`
pub each_refused : Refuses (zeros (suc limit)) 0 message_too_long 0
    × Refuses [] 0 ends_too_early 0
    × Refuses (0x5D ∷ []) 0 not_allowed 0
    × Refuses (0x43 ∷ 0x80 ∷ []) 10 wrong_content 1
    × Refuses (0x53 ∷ 0x6D ∷ 0 ∷ 0 ∷ 0x20 ∷ 0 ∷ []) 10 over_limit 1
    × Refuses (0x53 ∷ 0x69 ∷ 0xFF ∷ []) 10 wrong_integer 1
    × Refuses (replicate 33 0x5B) 330 too_deep 32
    × Refuses (0x5A ∷ []) 9 no_row_left 0
    × Refuses (0x5A ∷ 0x5A ∷ []) 10 bytes_after 1
    × Refuses (0x5B ∷ 0x24 ∷ 0x7B ∷ 0x55 ∷ 1 ∷ 0x61 ∷ 0x48 ∷ []) 30 not_built 6
unfolding Conditions.when◌then◌else◌ Conditions.among Conditions.all Outcome.◌>>=◌ Outcome.◌>>◌ Outcome.guard Marks.opens Marks.closes Marks.integers Marks.is_integer Marks.signed_integers Marks.is_signed Marks.types Marks.is_scalar Marks.is_plain_leaf Marks.is_boolean Marks.width Marks.leaf_width Text.is_text Text.shaped Content.is_content Content.content Content.contents Content.payload_end Tokens.size Tokens.◌⊕◌ Tokens.below_first Tokens.is_kind Tokens.members Rows.rows_in Records.member_width Records.total_width Records.at_offset Records.placed Indexes.product Indexes.count_from Storage.end_to_end Storage.leaves Storage.by_rows Storage.records Bytes.little Bytes.leading_noops Bytes.bytes Bytes.skip Bytes.reach Bytes.byte Bytes.one_of Integers.is_negative Integers.number Integers.integer_to Sequences.row_left Sequences.◌⨾◌ Sequences.until Scalars.scalar Scalars.text Scalars.key Dimensions.plain Dimensions.shape Schemas.leaf Schemas.group Schemas.plain_leaf Schemas.enclosed Schemas.schema Schemas.kind_by Schemas.group_by Schemas.nested Schemas.table_schema Containers.container_kind Containers.container Containers.stored Containers.table Containers.plain Containers.items Containers.typed Containers.container_by Read.value_by Read.nested Read.read Read.read_into
each_refused = (over_limit_lem (suc limit) refl, refl, refl, refl, refl, refl, refl, refl, refl, refl)

-- the house form of `[]` has four bytes: three are too few
pub output_refused : rewrite_into (0x5B ∷ 0x5D ∷ []) (zeros 10) (zeros 3) new ≡ fault output_too_long 0
unfolding Conditions.when◌then◌else◌ Conditions.among Conditions.all Outcome.◌>>=◌ Outcome.◌>>◌ Outcome.guard Marks.opens Marks.closes Marks.integers Marks.is_integer Marks.signed_integers Marks.is_signed Marks.types Marks.is_scalar Marks.is_plain_leaf Marks.is_boolean Marks.width Marks.leaf_width Text.is_text Text.shaped Content.is_content Content.content Content.contents Content.payload_end Tokens.size Tokens.◌⊕◌ Tokens.below_first Tokens.is_kind Tokens.members Rows.rows_in Records.member_width Records.total_width Records.at_offset Records.placed Indexes.product Indexes.count_from Storage.end_to_end Storage.leaves Storage.by_rows Storage.records Bytes.little Bytes.leading_noops Bytes.bytes Bytes.skip Bytes.reach Bytes.byte Bytes.one_of Integers.is_negative Integers.number Integers.integer_to Sequences.row_left Sequences.◌⨾◌ Sequences.until Scalars.scalar Scalars.text Scalars.key Dimensions.plain Dimensions.shape Schemas.leaf Schemas.group Schemas.plain_leaf Schemas.enclosed Schemas.schema Schemas.kind_by Schemas.group_by Schemas.nested Schemas.table_schema Containers.container_kind Containers.container Containers.stored Containers.table Containers.plain Containers.items Containers.typed Containers.container_by Read.value_by Read.nested Read.read Read.read_into HouseForm.digits HouseForm.small_integer HouseForm.whole HouseForm.token HouseForm.written HouseForm.house HouseForm.rewrite Integers.smallest
output_refused = refl
