-- Reading: a message, the number of rows lent and an edition's grammar, to the forest of its tokens or the first fault reached from left
-- to right.
use Rattle.std.specs.Prelude.{ℕ, zero, suc, ◌+◌, ◌&&◌, List, length, leb, eqb}
use Rattle.format.specs.Conditions.{when◌then◌else◌}
use Rattle.format.specs.Outcome.{Outcome, fault, done, ◌>>=◌, ◌>>◌, guard}
use Rattle.format.specs.Limits.{limit, value_levels}
use Rattle.format.specs.Refusals.{message_too_long, not_allowed, too_deep, bytes_after}
use Rattle.format.specs.Marks.{Opening, bracket, brace, is_scalar, 'E', 'H', 'S', '[', left_brace}
use Rattle.format.specs.Tokens.{text as kind_of_text, high_precision, Forest, size}
use Rattle.format.specs.Rows.{rows_in, all_words, zeros, filled}
use Rattle.format.specs.Bytes.{byte, skip}
use Rattle.format.specs.Sequences.{Reader}
use Rattle.format.specs.Scalars.{scalar, text}
use Rattle.format.specs.Containers.{container_by}
use Rattle.format.specs.Extensions.{extension}
use Rattle.format.specs.Grammars.{Grammar}

module _ (m : List ℕ) (rows_lent : ℕ) (grammar : Grammar) where
  -- a value, given what reads a container
  unfoldable pub value_by : (Opening → Reader) → Reader
  value_by nested at row = do
    mark ← byte m at
    when is_scalar mark then scalar m rows_lent mark (at + 1) at row else
        when eqb mark 'S' then text m rows_lent kind_of_text 'S' at row else
        when eqb mark 'H' then text m rows_lent high_precision 'H' at row else
        when eqb mark '[' then nested bracket at row else
        when eqb mark left_brace then nested brace at row else
        when grammar.extensions && eqb mark 'E' then extension m rows_lent at row else
        fault not_allowed at

  -- a container, with so many levels of value nesting left
  unfoldable pub nested : ℕ → Opening → Reader
  nested zero opening at row = fault too_deep at
  nested (suc levels) opening at row = container_by m rows_lent (value_by (nested levels)) opening at row

  -- a message is one value, with any number of `N` before and after
  unfoldable pub read : Outcome Forest
  read = do
    guard (leb (length m) limit) message_too_long 0
    (f, next) ← value_by (nested value_levels) (skip m 0) 0
    guard (eqb (skip m next) (length m)) bytes_after (skip m next)
    done f

-- reading with rows enough: a token has a byte of its own, so n rows are enough for n bytes, and 8 is never given
unfoldable pub read_whole : List ℕ → Grammar → Outcome Forest
read_whole m grammar = read m (length m) grammar

-- reading into lent words
unfoldable pub read_into : List ℕ → List ℕ → Grammar → Outcome Forest
read_into m ws grammar = read m (rows_in ws) grammar

-- beside number and place, the rows used
unfoldable pub rows_used : Outcome Forest → Outcome ℕ
rows_used (fault n p) = fault n p
rows_used (done f) = done (size f)

-- the words of a row table of so many words after reading: the rows, then zeros; all zero on refusal
unfoldable pub words_after : ℕ → Outcome Forest → List ℕ
words_after words (fault n p) = zeros words
words_after words (done f) = filled words (all_words f)
