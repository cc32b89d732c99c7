-- Counts and dimension vectors: what stands after a `#`.
use Rattle.std.specs.Prelude.{ℕ, zero, suc, ◌+◌, Bool, not, ◌&&◌, List, eqb}
use Rattle.format.specs.Conditions.{when◌then◌else◌, between}
use Rattle.format.specs.Outcome.{fault, done, Parsed, ◌>>=◌, ◌>>◌, guard}
use Rattle.format.specs.Limits.{limit, dimension_limit}
use Rattle.format.specs.Refusals.{wrong_integer}
use Rattle.format.specs.Marks.{is_integer, width, '#', '$', '[', ']'}
use Rattle.format.specs.Tokens.{Token, dimension as kind_of_dimension, plain_count, first_slowest, first_fastest, Forest, none, alone, counts}
use Rattle.format.specs.Indexes.{product}
use Rattle.format.specs.Bytes.{byte, one_of}
use Rattle.format.specs.Integers.{number, integer}
use Rattle.format.specs.Sequences.{Reader, row_left, ◌⨾◌, repeat}

-- a count: how many, the dimension tokens, if any, and the order
pub record Shape : Type 0 where
  pub many : ℕ
  pub dimensions : Forest
  pub order : ℕ

-- the shape that dimensions give
unfoldable pub shaped : ℕ → Forest → Shape
shaped order dims = record { many = product (counts dims); dimensions = dims; order = order }

module _ (m : List ℕ) (rows_lent : ℕ) where
  -- a dimension under a mark, whose number starts at `start`
  unfoldable pub dimension : ℕ → ℕ → Reader
  dimension mark start at row = do
    row_left rows_lent at row
    (n, next) ← number m limit mark at start
    let token : Token = record {
      kind = kind_of_dimension;
      mark = mark;
      first = at;
      payload = start;
      extent = width mark;
      count = n;
      order = plain_count;
    }
    done (alone token, next)

  -- an integer record
  unfoldable pub marked : Reader
  marked at row = do
    mark ← one_of m is_integer at
    dimension mark (at + 1) at row

  -- a bare integer: its place is its first byte
  unfoldable pub bare : ℕ → Reader
  bare mark at row = do
    _ ← byte m at
    dimension mark at at row

  -- more integer records up to `]`; `left` more may be read, and none left means that nine were
  unfoldable pub listed : ℕ → ℕ → Reader
  listed zero place at row = fault wrong_integer place
  listed (suc left) place at row = do
    b ← byte m at
    when eqb b ']' then done (none, at + 1) else (marked ⨾ listed left place) at row

  -- the number of dimensions, and so many
  unfoldable pub counted : ℕ → Reader → Reader
  counted place item at row = do
    (n, next) ← integer m at
    guard (between 1 dimension_limit n) wrong_integer place
    repeat n item next row

  -- an integer mark, `#`, and bare integers under that mark
  unfoldable pub counted_bare : ℕ → Reader
  counted_bare place at row = do
    mark ← one_of m is_integer at
    _ ← one_of m (eqb '#') (at + 1)
    counted place (bare mark) (at + 2) row

  -- a dimension vector's three forms, from the byte after its `[` on. `place` is the `[` after the container's `#`
  unfoldable pub vector : ℕ → Reader
  vector place at row = do
    b ← byte m at
    when eqb b ']' then fault wrong_integer place else
        when eqb b '#' then counted place marked (at + 1) row else
        when eqb b '$' then counted_bare place (at + 1) row else
        (marked ⨾ listed dimension_limit place) at row

  -- a vector: first index slowest
  unfoldable pub slowest : ℕ → ℕ → Parsed Shape
  slowest at row = do
    (dims, end) ← vector at (at + 1) row
    done (shaped first_slowest dims, end)

  -- a vector inside a further `[` and `]`: first index fastest
  unfoldable pub fastest : ℕ → ℕ → Parsed Shape
  fastest at row = do
    (dims, end) ← vector at (at + 2) row
    _ ← one_of m (eqb ']') end
    done (shaped first_fastest dims, end + 1)

  -- an integer: a plain count
  unfoldable pub plain : ℕ → Parsed Shape
  plain at = do
    (n, next) ← integer m at
    done (record { many = n; dimensions = none; order = plain_count }, next)

  -- what stands after a `#`: an integer or a dimension vector, which may be wrapped or not
  unfoldable pub shape : Bool → ℕ → ℕ → Parsed Shape
  shape may_wrap at row = do
    b ← byte m at
    when not (eqb b '[') then plain at else (do
      c ← byte m (at + 1)
      when eqb c '[' && may_wrap then fastest at row else slowest at row)
