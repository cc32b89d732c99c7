-- How the answers of kinds stand to the outcomes of the definitions, and to the lent words.
use Rattle.std.specs.Prelude.{ℕ, ◌+◌, ◌-◌, ◌≤◌, ◌<◌, min, ◌≡◌, List, Result, Ok, Err}
use Rattle.format.specs.Outcome.{Parsed, fault, done}
use Rattle.format.specs.Limits.{record_limit}
use Rattle.format.specs.Marks.{Opening, bracket, brace, opening_of}
use Rattle.format.specs.Tokens.{Kind, Token, plain_count, Forest, size, members}
use Rattle.format.specs.Records.{total_width, placed}
use Rattle.format.specs.Rows.{Ancestry, rows}
use Rattle.format.specs.Sequences.{Reader, ◌⨾◌}
use Rattle.format.specs.Scalars.{key}
use Rattle.format.specs.Schemas.{plain_leaf, text_leaf, enclosed, kind_by, nested}
use Rattle.rows.specs.Overlay.{lay}
use Rattle.tokens.specs.Answers.{onto}
use Rattle.format.specs.Answers.{refused, refusal_number}
use Rattle.format.specs.declared.refusals.Refusal.{Refusal}
use Rattle.format.specs.declared.refusals.Refused.{Refused}
use Rattle.laws.specs.Groups.{group_kind}
use Rattle.kinds.specs.declared.Kinds.{Kinds}
use Rattle.kinds.specs.declared.starts.Class.{Class}
use Rattle.kinds.specs.declared.starts.Class.TheVariants.{Plain, Text, Group}
use Rattle.kinds.specs.declared.starts.Start.{Start}
use Rattle.kinds.specs.declared.starts.Start.TheVariants.{Whole, Opens as OpensGroup}

-- offsets are told apart up to a record's limit: this one stands for all beyond
abbrev pub over : ℕ
over = record_limit + 1

-- a record's or a fixed array's token, at its offset
abbrev pub group_at : Kind → ℕ → ℕ → ℕ → ℕ → ℕ → Token
group_at kind mark at offset extent count =
    record { kind = kind; mark = mark; first = at; payload = offset; extent = extent; count = count; order = plain_count }

-- ---- the definition's readers, with so many levels of schema nesting left

module _ (m : List ℕ) (rows_lent levels : ℕ) where
  abbrev pub kind_at : Reader
  kind_at = kind_by m rows_lent (nested m rows_lent levels)

  -- a record's field
  abbrev pub field_at : Reader
  field_at = key m rows_lent ⨾ kind_at

  -- a member of a record or a fixed array
  abbrev pub member_at : Opening → Reader
  member_at bracket = kind_at
  member_at brace = field_at

  -- a record or a fixed array, once its tests are made
  abbrev pub group_from : Opening → Reader
  group_from o = enclosed m rows_lent (group_kind o) o (member_at o)

-- what a mark leads to
abbrev pub class_read : Result Class Refusal → List ℕ → ℕ → (Opening → Reader) → ℕ → Reader
class_read (Ok Plain) m rows_lent inner mark at row = plain_leaf m rows_lent mark at row
class_read (Ok Text) m rows_lent inner mark at row = text_leaf m rows_lent at row
class_read (Ok (Group b)) m rows_lent inner mark at row = inner (opening_of b) at row
class_read (Err r) m rows_lent inner mark at row = fault (refusal_number r) at

-- ---- what was read

-- one kind was read at an offset; where the offset after it is told apart, its rows now lie in the words from `row` on, as far as
-- these reach, each with its own offset
pub record Read (o : Parsed Forest) (row offset : ℕ) (ancestry : Ancestry) (before after : List ℕ) (next row' offset' : ℕ) : Type 0 where
  pub forest : Forest
  pub read : o ≡ done (forest, next)
  pub counted : members forest ≡ 1
  pub took : row' ≡ row + size forest
  pub wide : offset' ≡ min (offset + total_width forest) over
  pub lie : offset' ≤ record_limit → after ≡ lay before row (rows row ancestry (placed offset forest))

-- the answer to a reader: its refusal, whatever the words then hold; or what was read
abbrev pub Meets : Result Kinds Refused → Parsed Forest → ℕ → ℕ → Ancestry → List ℕ → List ℕ → Type 0
Meets (Err r) o row offset ancestry before after = o ≡ refused r
Meets (Ok k) o row offset ancestry before after = Read o row offset ancestry before after k.at k.row k.offset

-- so far `count` members were read, and the whole is these and what remains
pub record Sofar (whole : Parsed Forest) (first offset : ℕ) (ancestry : Ancestry) (before : List ℕ) (remains : Parsed Forest) (row count offset' : ℕ) (now : List ℕ) : Type 0 where
  pub forest : Forest
  pub is : whole ≡ onto forest remains
  pub counted : members forest ≡ count
  pub took : row ≡ first + size forest
  pub wide : offset' ≡ min (offset + total_width forest) over
  pub lie : offset' ≤ record_limit → now ≡ lay before first (rows first ancestry (placed offset forest))

-- where a kind begins: it is refused or read; or, perhaps after a key, the members of a record or a fixed array remain to be read
abbrev pub StartMeets : Result Start Refused → List ℕ → ℕ → ℕ → Parsed Forest → ℕ → ℕ → Ancestry → List ℕ → List ℕ → Type 0
StartMeets (Err r) m rows_lent levels o row offset ancestry before after = o ≡ refused r
StartMeets (Ok (Whole k)) m rows_lent levels o row offset ancestry before after = Read o row offset ancestry before after k.at k.row k.offset
StartMeets (Ok (OpensGroup b a r)) m rows_lent levels o row offset ancestry before after = Sofar o row offset ancestry before (group_from m rows_lent (levels - 1) (opening_of b) a r) r 0 offset after

-- ---- places, rows and offsets

-- where a kind ends: from `low` on, with a row for each byte before it at most
pub record Ends (low high rows_lent offset next row offset' : ℕ) : Type 0 where
  pub on : low ≤ next
  pub inside : next ≤ high
  pub row_lent : row ≤ rows_lent
  pub row_byte : row ≤ next
  pub rise : offset ≤ offset'
  pub most : offset' ≤ over

abbrev pub Within : Result Kinds Refused → ℕ → ℕ → ℕ → ℕ → Type 0
Within (Err r) low high rows_lent offset = Unit {0}
Within (Ok k) low high rows_lent offset = Ends low high rows_lent offset k.at k.row k.offset

-- where members begin: at a byte and a row that are there, with a level left
pub record Opens (low high rows_lent levels at row : ℕ) : Type 0 where
  pub on : low ≤ at
  pub inside : at < high
  pub row_lent : row < rows_lent
  pub row_byte : row ≤ at
  pub deep : 0 < levels

abbrev pub StartWithin : Result Start Refused → ℕ → ℕ → ℕ → ℕ → ℕ → Type 0
StartWithin (Err r) low high rows_lent levels offset = Unit {0}
StartWithin (Ok (Whole k)) low high rows_lent levels offset = Ends (low + 1) high rows_lent offset k.at k.row k.offset
StartWithin (Ok (OpensGroup b a r)) low high rows_lent levels offset = Opens low high rows_lent levels a r
