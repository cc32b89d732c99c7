-- Integers that are lengths, counts, dimensions and ids. In an integer: mark, end of message, sign, limit.
use Rattle.std.specs.Prelude.{ℕ, ◌+◌, ◌*◌, ◌^◌, Bool, not, ◌&&◌, List, leb, ltb}
use Rattle.format.specs.Conditions.{when◌then◌else◌}
use Rattle.format.specs.Outcome.{done, Parsed, ◌>>=◌, ◌>>◌, guard}
use Rattle.format.specs.Limits.{limit}
use Rattle.format.specs.Refusals.{over_limit, wrong_integer}
use Rattle.format.specs.Marks.{is_integer, is_signed, width, 'U', 'u', 'm'}
use Rattle.format.specs.Bytes.{little, bytes, reach, one_of}

-- under a signed mark the number's highest bit is its sign
unfoldable pub is_negative : ℕ → ℕ → Bool
is_negative mark n = is_signed mark && leb (256 ^ width mark) (2 * n)

-- the smallest of `U u m` that holds a number within the limits
unfoldable pub smallest : ℕ → ℕ
smallest n = when ltb n (256 ^ width 'U') then 'U' else when ltb n (256 ^ width 'u') then 'u' else 'm'

module _ (m : List ℕ) where
  -- the number under a mark, at most `highest`, whose bytes start at `start`; `place` is where it is refused
  unfoldable pub number : ℕ → ℕ → ℕ → ℕ → Parsed ℕ
  number highest mark place start = do
    reach m (start + width mark)
    let n = little (bytes m start (width mark))
    guard (not (is_negative mark n)) wrong_integer place
    guard (leb n highest) over_limit place
    done (n, start + width mark)

  -- an integer record: a mark and its number, at most `highest`
  unfoldable pub integer_to : ℕ → ℕ → Parsed ℕ
  integer_to highest at = do
    mark ← one_of m is_integer at
    number highest mark at (at + 1)

  -- a length, a count or a dimension
  abbrev pub integer : ℕ → Parsed ℕ
  integer at = integer_to limit at
