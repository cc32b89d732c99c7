-- Schemas: the leaves, records and fixed arrays of a table.
use Rattle.std.specs.Prelude.{ℕ, zero, suc, ◌+◌, not, List, length, eqb}
use Rattle.format.specs.Conditions.{when◌then◌else◌}
use Rattle.format.specs.Outcome.{fault, done, ◌>>=◌, ◌>>◌, guard}
use Rattle.format.specs.Limits.{schema_levels}
use Rattle.format.specs.Refusals.{not_allowed, too_deep, not_built}
use Rattle.format.specs.Marks.{Opening, bracket, brace, opens, closes, is_plain_leaf, leaf_width, 'H', 'S', '$', '[', left_brace}
use Rattle.format.specs.Tokens.{Kind, Token, leaf as kind_of_leaf, schema_record, fixed_array, plain_count, Forest, node, none, alone, uncounted, members}
use Rattle.format.specs.Records.{total_width}
use Rattle.format.specs.Bytes.{byte}
use Rattle.format.specs.Integers.{integer}
use Rattle.format.specs.Sequences.{Reader, row_left, ◌⨾◌, until}
use Rattle.format.specs.Scalars.{key}

-- a leaf; offsets are set when the whole schema is read
unfoldable pub leaf : ℕ → ℕ → ℕ → Forest
leaf mark at w = alone (uncounted kind_of_leaf mark at 0 w)

-- a record or a fixed array of these members: as wide as they are together
unfoldable pub group : Kind → Opening → ℕ → Forest → Forest
group kind opening at under =
    let token : Token = record {
      kind = kind;
      mark = opens opening;
      first = at;
      payload = 0;
      extent = total_width under;
      count = members under;
      order = plain_count;
    } in
    node token under none

module _ (m : List ℕ) (rows_lent : ℕ) where
  -- one of the thirteen marks, `T` or `Z`
  unfoldable pub plain_leaf : ℕ → Reader
  plain_leaf mark at row = do
    row_left rows_lent at row
    done (leaf mark at (leaf_width mark), at + 1)

  -- `S` and an integer: so many bytes of text
  unfoldable pub text_leaf : Reader
  text_leaf at row = do
    row_left rows_lent at row
    (n, next) ← integer m (at + 1)
    done (leaf 'S' at n, next)

  -- one or more of an item, and the closing mark
  unfoldable pub enclosed : Kind → Opening → Reader → Reader
  enclosed kind opening item at row = do
    (under, end) ← (item ⨾ until m (length m) (λ here. here) (closes opening) item) (at + 1) (row + 1)
    done (group kind opening at under, end + 1)

  -- a schema: key and kind, one or more
  unfoldable pub schema : Reader → Reader
  schema kind at row = do
    row_left rows_lent at row
    enclosed schema_record brace (key m rows_lent ⨾ kind) at row

  -- a fixed array: one or more kinds; `[` followed by `$` isn't built
  unfoldable pub fixed : Reader → Reader
  fixed kind at row = do
    row_left rows_lent at row
    b ← byte m (at + 1)
    guard (not (eqb b '$')) not_built at
    enclosed fixed_array bracket kind at row

  -- a kind, given what reads a nested schema or a fixed array
  unfoldable pub kind_by : (Opening → Reader) → Reader
  kind_by nested at row = do
    mark ← byte m at
    when is_plain_leaf mark then plain_leaf mark at row else
        when eqb mark 'S' then text_leaf at row else
        when eqb mark 'H' then fault not_built at else
        when eqb mark '[' then nested bracket at row else
        when eqb mark left_brace then nested brace at row else
        fault not_allowed at

  -- a schema or a fixed array, given what reads a kind in it
  unfoldable pub group_by : Reader → Opening → Reader
  group_by kind bracket = fixed kind
  group_by kind brace = schema kind

  -- with so many levels of schema nesting left: schemas hold fixed arrays that hold schemas
  unfoldable pub nested : ℕ → Opening → Reader
  nested zero opening at row = fault too_deep at
  nested (suc levels) opening at row = group_by (kind_by (nested levels)) opening at row

  -- a table's schema
  unfoldable pub table_schema : Reader
  table_schema = nested schema_levels brace
