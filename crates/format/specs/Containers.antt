-- Packed arrays, tables, arrays and objects.
use Rattle.std.specs.Prelude.{ℕ, ◌+◌, ◌-◌, ◌*◌, true, false, List, length, leb, eqb}
use Rattle.format.specs.Conditions.{when◌then◌else◌}
use Rattle.format.specs.Outcome.{done, ◌>>=◌, ◌>>◌, guard}
use Rattle.format.specs.Limits.{limit, record_limit}
use Rattle.format.specs.Refusals.{not_allowed, over_limit}
use Rattle.format.specs.Marks.{Opening, bracket, brace, opens, closes, is_type, width, '#', '$', left_brace}
use Rattle.format.specs.Tokens.{Kind, Token, array, object, packed as kind_of_packed, table as kind_of_table, plain_count, Forest, none, node, size, ◌⊕◌, below_first, members}
use Rattle.format.specs.Records.{total_width, placed}
use Rattle.format.specs.Indexes.{below}
use Rattle.format.specs.Storage.{member_row, elements, records}
use Rattle.format.specs.Bytes.{byte, one_of, reach, skip}
use Rattle.format.specs.Content.{contents}
use Rattle.format.specs.Integers.{integer}
use Rattle.format.specs.Sequences.{Reader, row_left, ◌⨾◌, repeat, until, spaced}
use Rattle.format.specs.Scalars.{key, unmarked}
use Rattle.format.specs.Dimensions.{Shape, shape}
use Rattle.format.specs.Schemas.{table_schema}

unfoldable pub container_kind : Opening → Kind
container_kind bracket = array
container_kind brace = object

-- an array or object whose payload goes from `start` to `end`
unfoldable pub container : Opening → ℕ → ℕ → ℕ → Forest → Forest
container opening at start end under =
    let token : Token = record {
      kind = container_kind opening;
      mark = opens opening;
      first = at;
      payload = start;
      extent = end - start;
      count = members under;
      order = plain_count;
    } in
    node token under none

-- a packed array or table of this shape, whose payload goes from `start` on for so many bytes
unfoldable pub stored : Kind → ℕ → ℕ → ℕ → ℕ → Shape → Forest → Forest
stored kind mark at start extent n under =
    let token : Token = record {
      kind = kind;
      mark = mark;
      first = at;
      payload = start;
      extent = extent;
      count = n.many;
      order = n.order;
    } in
    node token under none

module _ (m : List ℕ) (rows_lent : ℕ) where
  -- a packed array of elements under a mark, with its count at `from`: product, payload end, content in payload order
  unfoldable pub packed : ℕ → ℕ → Reader
  packed mark from at row = do
    (n, start) ← shape m rows_lent true from (row + 1)
    guard (leb n.many limit) over_limit at
    let extent = n.many * width mark
    reach m (start + extent)
    contents m start (elements row mark (below n.many))
    done (stored kind_of_packed mark at start extent n n.dimensions, start + extent)

  -- a table: schema, `#`, count; product and record size, payload end, content in payload order
  unfoldable pub table : Opening → Reader
  table opening at row = do
    (s, from) ← table_schema m rows_lent (at + 2) (row + 1)
    _ ← one_of m (eqb '#') from
    (n, start) ← shape m rows_lent false (from + 1) (row + 1 + size s)
    guard (leb n.many limit) over_limit at
    guard (leb (total_width s) record_limit) over_limit at
    let extent = n.many * total_width s
    reach m (start + extent)
    contents m start (records opening (member_row row) (below_first s) (below n.many))
    done (stored kind_of_table (opens opening) at start extent n (placed 0 s ⊕ n.dimensions), start + extent)

  -- a counted array or object, with its count at `from`: there is no closing mark
  unfoldable pub counted : Opening → Reader → ℕ → Reader
  counted opening item from at row = do
    (n, start) ← integer m from
    (under, end) ← repeat n item start (row + 1)
    done (container opening at start end under, end)

  -- a plain array or object, up to its closing mark
  unfoldable pub plain : Opening → Reader → Reader
  plain opening item at row = do
    (under, end) ← until m (length m) (skip m) (closes opening) item (at + 1) (row + 1)
    done (container opening at (at + 1) end under, end + 1)

  -- a typed array is packed; a typed object has keys, each followed by its value without mark
  unfoldable pub typed_as : Opening → ℕ → Reader
  typed_as bracket type at row = packed type (at + 4) at row
  typed_as brace type at row = counted brace (key m rows_lent ⨾ unmarked m rows_lent type) (at + 4) at row

  -- after `$`: a schema, or one of the thirteen marks and `#`
  unfoldable pub typed : Opening → Reader
  typed opening at row = do
    type ← byte m (at + 2)
    when eqb type left_brace then table opening at row else (do
      guard (is_type type) not_allowed (at + 2)
      _ ← one_of m (eqb '#') (at + 3)
      typed_as opening type at row)

  -- what an array or object without a type holds: values, or key and value
  unfoldable pub items : Opening → Reader → Reader
  items bracket value = value
  items brace value = key m rows_lent ⨾ spaced m value

  -- a container, given what reads a value in it
  unfoldable pub container_by : Reader → Opening → Reader
  container_by value opening at row = do
    row_left rows_lent at row
    b ← byte m (at + 1)
    when eqb b '$' then typed opening at row else
        when eqb b '#' then counted opening (spaced m (items opening value)) (at + 2) at row else
        plain opening (items opening value) at row
