-- The rows that a message needs.
--
-- In plain words. Ask how many rows a message needs, and lend so many: it is accepted, with the same tokens as in any larger table. Lend
-- fewer, and it is refused with 8, at the first byte of the first token for which no row is left: with one fewer that is the last token.
-- And a message that is accepted in some table uses there as many rows as it was said to need.
--
-- Formally. `m` is any message, `grammar` any edition's, and `n` the rows that `rows_used (read_whole m grammar)` says. The panel's call,
-- `Panel.rows_needed`, says so by the new edition. `proofs/RowsNeeded` proves it of all of them.
use Rattle.std.specs.Prelude.{ℕ, ◌≤◌, ◌<◌, ◌≡◌, List}
use Rattle.format.specs.Grammars.{Grammar}
use Rattle.format.specs.Outcome.{fault, done}
use Rattle.format.specs.Refusals.{no_row_left}
use Rattle.format.specs.Tokens.{Token, Forest, size}
use Rattle.format.specs.Rows.{rows_in}
use Rattle.format.specs.Read.{read_whole, read_into, rows_used}
use Rattle.laws.specs.Places.{At}

-- the refusal for want of a row: 8, at the first byte of the token at that row
pub record NoRow (m lent : List ℕ) (grammar : Grammar) (f : Forest) (row : ℕ) : Type 0 where
  pub token : Token
  pub below : Forest
  pub stands : At 0 f row token below
  pub refused : read_into m lent grammar ≡ fault no_row_left token.first

pub record RowsNeeded (m : List ℕ) (grammar : Grammar) (n : ℕ) : Type 0 where
  -- the message has so many tokens
  pub tokens : Forest
  pub whole : read_whole m grammar ≡ done tokens
  pub counted : size tokens ≡ n
  -- words that have so many rows or more are enough, for the same tokens
  pub enough : (lent : List ℕ) → n ≤ rows_in lent → read_into m lent grammar ≡ done tokens
  -- in fewer it is refused: the token at the first row that is missing has none
  pub too_few : (lent : List ℕ) → rows_in lent < n → NoRow m lent grammar tokens (rows_in lent)
  -- where it is accepted, so many rows are used
  pub used : (lent : List ℕ) (f : Forest) → read_into m lent grammar ≡ done f → rows_used (read_into m lent grammar) ≡ done n
