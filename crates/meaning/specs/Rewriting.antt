-- What a house form is to the message that it was written from, and to itself.
use Rattle.std.specs.Prelude.{ℕ, ◌≡◌, List}
use Rattle.format.specs.Grammars.{Grammar}
use Rattle.format.specs.Outcome.{done}
use Rattle.format.specs.Tokens.{Forest, size}
use Rattle.format.specs.Rows.{all_rows}
use Rattle.format.specs.Read.{read}
use Rattle.format.specs.HouseForm.{house}
use Rattle.format.specs.SameMeaning.{SameMeaning}

-- the message h, read with so many rows lent, has the same meaning as the tokens f of the message m, and as many rows
pub record Rewritten (m : List ℕ) (f : Forest) (rows_lent : ℕ) (grammar : Grammar) (h : List ℕ) : Type 0 where
  pub tokens : Forest
  pub accepted : read h rows_lent grammar ≡ done tokens
  pub meaning : SameMeaning m (all_rows f) h (all_rows tokens)
  pub rows_used : size tokens ≡ size f

-- a message is in house form if it is accepted and is its own house form
pub record InHouseForm (h : List ℕ) (rows_lent : ℕ) (grammar : Grammar) : Type 0 where
  pub tokens : Forest
  pub accepted : read h rows_lent grammar ≡ done tokens
  pub own : house h tokens ≡ h
