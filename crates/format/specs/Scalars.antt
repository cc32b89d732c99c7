-- Scalars, texts, high-precision numbers and keys. Where a token must begin, no byte is 2; then mark, depth, row, the rest.
use Rattle.std.specs.Prelude.{ℕ, ◌+◌, List}
use Rattle.format.specs.Outcome.{done, ◌>>=◌, ◌>>◌}
use Rattle.format.specs.Limits.{limit}
use Rattle.format.specs.Marks.{is_integer, width, 'S'}
use Rattle.format.specs.Tokens.{Kind, scalar as kind_of_scalar, key as kind_of_key, alone, uncounted}
use Rattle.format.specs.Bytes.{byte, one_of}
use Rattle.format.specs.Content.{payload_end}
use Rattle.format.specs.Integers.{number, integer}
use Rattle.format.specs.Sequences.{Reader, row_left}

module _ (m : List ℕ) (rows_lent : ℕ) where
  -- a scalar under a mark, whose payload starts at `start`
  unfoldable pub scalar : ℕ → ℕ → Reader
  scalar mark start at row = do
    row_left rows_lent at row
    next ← payload_end m mark start (width mark)
    done (alone (uncounted kind_of_scalar mark at start (width mark)), next)

  -- a value without mark
  unfoldable pub unmarked : ℕ → Reader
  unmarked mark at row = do
    _ ← byte m at
    scalar mark at at row

  -- `S` or `H`: an integer record, and so many bytes
  unfoldable pub text : Kind → ℕ → Reader
  text kind mark at row = do
    row_left rows_lent at row
    (n, start) ← integer m (at + 1)
    next ← payload_end m mark start n
    done (alone (uncounted kind mark at start n), next)

  -- a key is `S` without its mark
  unfoldable pub key : Reader
  key at row = do
    mark ← one_of m is_integer at
    row_left rows_lent at row
    (n, start) ← number m limit mark at (at + 1)
    next ← payload_end m 'S' start n
    done (alone (uncounted kind_of_key 'S' at start n), next)
