-- What is known of a table once its schema and its count are read.
use Rattle.std.specs.Prelude.{ℕ, ◌+◌, ◌≤◌, ◌<◌, min, ◌≡◌, false, List, length, get_or}
use Rattle.format.specs.Outcome.{done}
use Rattle.format.specs.Limits.{limit, record_limit}
use Rattle.format.specs.Marks.{'#'}
use Rattle.format.specs.Tokens.{Forest, size, ◌⊕◌}
use Rattle.format.specs.Records.{total_width, placed}
use Rattle.format.specs.Rows.{Ancestry, rows}
use Rattle.format.specs.Dimensions.{Shape, shape}
use Rattle.format.specs.Schemas.{table_schema}
use Rattle.rows.specs.Overlay.{lay}

-- what was read: the schema, `#` and the count; a width or a count over its limit is told as one over it, and only where the width is
-- within it do the rows lie in the words
pub record HeaderRead (m : List ℕ) (lent at row : ℕ) (ancestry : Ancestry) (before now : List ℕ) (width start link many order : ℕ) : Type 0 where
  pub schema : Forest
  pub from : ℕ
  pub read : table_schema m lent (at + 2) (row + 1) ≡ done (schema, from)
  pub there : from < length m
  pub hash : '#' ≡ get_or m from 0
  pub count : Shape
  pub told : shape m lent false (from + 1) (row + 1 + size schema) ≡ done (count, start)
  pub wide : width ≡ min (total_width schema) (record_limit + 1)
  pub times : many ≡ min count.many (limit + 1)
  pub ordered : order ≡ count.order
  pub took : link ≡ row + 1 + size (placed 0 schema ⊕ count.dimensions)
  pub lie : width ≤ record_limit → now ≡ lay before (row + 1) (rows (row + 1) ancestry (placed 0 schema ⊕ count.dimensions))

-- and where: a row for each byte at most
pub record HeaderWithin (m : List ℕ) (width start link many at row : ℕ) : Type 0 where
  pub short : length m ≤ limit
  pub on : at + 2 < start
  pub inside : start ≤ length m
  pub row_byte : row ≤ at
  pub link_byte : link ≤ start
  pub narrow : width ≤ record_limit + 1
  pub few : many ≤ limit + 1
