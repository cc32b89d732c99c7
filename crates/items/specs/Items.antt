-- What the answers of the reader's items stand for.
use Rattle.std.specs.Prelude.{ℕ, ◌+◌, ◌≤◌, ◌<◌, ◌≡◌, ◌&&◌, List, eqb, Result, Ok, Err}
use Rattle.format.specs.Grammars.{Grammar}
use Rattle.format.specs.Conditions.{when◌then◌else◌}
use Rattle.format.specs.Outcome.{Parsed}
use Rattle.format.specs.Marks.{Opening, opening_of, is_scalar, 'E', 'H', 'S', '[', left_brace}
use Rattle.format.specs.Tokens.{Forest, size, members}
use Rattle.format.specs.Rows.{Ancestry, rows}
use Rattle.format.specs.Sequences.{Reader}
use Rattle.rows.specs.Overlay.{lay}
use Rattle.tokens.specs.Answers.{onto, Laid, Ends}
use Rattle.format.specs.Answers.{refused}
use Rattle.format.specs.declared.refusals.Refused.{Refused}
use Rattle.items.specs.declared.starts.Class.{Class}
use Rattle.items.specs.declared.starts.Class.TheVariants.{Scalar, Text, HighPrecision, Bracket, Brace, Extension, Other}
use Rattle.items.specs.declared.starts.Item.{Item}
use Rattle.items.specs.declared.starts.Item.TheVariants.{Whole, Opens}

-- what a mark begins
pub data Begins : Type 0 where
  scalar text high_precision opens_bracket opens_brace extension other : Begins

-- the tests of `Read.value_by`, in its order
unfoldable pub class : Grammar → ℕ → Begins
class grammar mark =
    when is_scalar mark then scalar else
    when eqb mark 'S' then text else
    when eqb mark 'H' then high_precision else
    when eqb mark '[' then opens_bracket else
    when eqb mark left_brace then opens_brace else
    when grammar.extensions && eqb mark 'E' then extension else other

abbrev pub class_of : Class → Begins
class_of Scalar = scalar
class_of Text = text
class_of HighPrecision = high_precision
class_of Bracket = opens_bracket
class_of Brace = opens_brace
class_of Extension = extension
class_of Other = other

-- a container opens, after a key in an object: what reads it reads the rest
pub record Opened (o : (Opening → Reader) → Parsed Forest) (row : ℕ) (ancestry : Ancestry) (before after : List ℕ) (opening : Opening) (at row' : ℕ) : Type 0 where
  pub forest : Forest
  pub is : (nested : Opening → Reader) → o nested ≡ onto forest (nested opening at row')
  pub counted : members forest ≡ 0
  pub took : row' ≡ row + size forest
  pub lie : after ≡ lay before row (rows row ancestry forest)

-- the answer to a reader of one member, whatever reads a container in it
abbrev pub ItemMeets : Result Item Refused → ((Opening → Reader) → Parsed Forest) → ℕ → Ancestry → List ℕ → List ℕ → Type 0
ItemMeets (Err r) o row ancestry before after = (nested : Opening → Reader) → o nested ≡ refused r
ItemMeets (Ok (Whole e)) o row ancestry before after = (nested : Opening → Reader) → Laid (o nested) row 1 ancestry before after e.at e.row
ItemMeets (Ok (Opens b at row')) o row ancestry before after = Opened o row ancestry before after (opening_of b) at row'

-- where it ends, or where the container opens
pub record Starts (low high rows_lent at row : ℕ) : Type 0 where
  pub on : low ≤ at
  pub inside : at < high
  pub row_lent : row ≤ rows_lent
  pub row_byte : row ≤ at

abbrev pub ItemWithin : Result Item Refused → ℕ → ℕ → ℕ → Type 0
ItemWithin (Err r) low high rows_lent = Unit {0}
ItemWithin (Ok (Whole e)) low high rows_lent = Ends (low + 1) high rows_lent e.at e.row
ItemWithin (Ok (Opens b at row)) low high rows_lent = Starts low high rows_lent at row
