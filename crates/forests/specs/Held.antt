-- What is known of the rows that are written: they are those of tokens that are written as their rows say.
use Rattle.std.specs.Prelude.{ℕ, suc, ◌+◌, ◌*◌, ◌-◌, ◌^◌, ◌≤◌, ◌≡◌, List, length}
use Rattle.format.specs.Limits.{limit}
use Rattle.format.specs.Tokens.{Token, Forest, none, node, size}
use Rattle.format.specs.Rows.{Row, Ancestry, rows_in, row_of}
use Rattle.storage.specs.Places.{Rowed}
use Rattle.forests.specs.Formed.{Formed}

-- the rows from `first` up to `stop` are those of some tokens
pub record Held (ws : List ℕ) (first stop : ℕ) : Type 0 where
  pub tokens : Forest
  pub formed : Formed tokens
  pub ancestry : Ancestry
  pub rowed : Rowed ws first ancestry tokens
  pub ends : stop ≡ first + size tokens
  pub inside : stop ≤ rows_in ws

-- those from `row` up to `link` are those of one token and those below it, and the first is r
pub record HeldToken (ws : List ℕ) (row link : ℕ) (r : Row) : Type 0 where
  pub token : Token
  pub below : Forest
  pub formed : Formed (node token below none)
  pub ancestry : Ancestry
  pub rowed : Rowed ws row ancestry (node token below none)
  pub row_is : r ≡ row_of token link ancestry
  pub ends : link ≡ suc row + size below
  pub inside : link ≤ rows_in ws

-- what a row writes of a message within the limit is shorter
abbrev pub most : ℕ
most = 2_097_152

-- where so many rows may be written: sums stay far below a machine's limit
pub record Room (m : List ℕ) (at first stop : ℕ) : Type 0 where
  pub short : length m ≤ limit
  pub low : at + most * (stop - first) ≤ 2 ^ 57
