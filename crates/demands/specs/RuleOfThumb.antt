-- The rule of thumb.
--
-- In plain words. A message of n bytes never needs more than n rows, and so never more than 10n words: whoever lends them is never told that
-- no row is left, and gets the answer that any larger table gives.
--
-- Formally. `m` is any message and `grammar` any edition's. `proofs/RuleOfThumb` proves it of all of them.
use Rattle.std.specs.Prelude.{ℕ, ◌*◌, ◌≤◌, ◌≡◌, List, length}
use Rattle.format.specs.Grammars.{Grammar}
use Rattle.format.specs.Outcome.{done, number_of}
use Rattle.format.specs.Refusals.{no_row_left}
use Rattle.format.specs.Tokens.{Forest, size}
use Rattle.format.specs.Rows.{row_words}
use Rattle.format.specs.Read.{read_whole, read_into}

pub record RuleOfThumb (m : List ℕ) (grammar : Grammar) : Type 0 where
  -- an accepted message has at most as many rows as bytes, whatever was lent
  pub rows_few : (lent : List ℕ) (f : Forest) → read_into m lent grammar ≡ done f → size f ≤ length m
  -- with ten words lent for each byte, 8 is never answered
  pub never_short : (lent : List ℕ) → length m * row_words ≤ length lent → number_of (read_into m lent grammar) ≡ no_row_left → ⊥
  -- and more words change nothing
  pub settled : (lent : List ℕ) → length m * row_words ≤ length lent → read_into m lent grammar ≡ read_whole m grammar
