-- How the answers about dimensions stand to the outcomes of the definitions, and to the lent words.
use Rattle.std.specs.Prelude.{ℕ, ◌+◌, ◌≤◌, ◌<◌, min, ◌≡◌, List, Result, Ok, Err}
use Rattle.format.specs.Outcome.{Parsed, done}
use Rattle.format.specs.Limits.{limit}
use Rattle.format.specs.Marks.{width}
use Rattle.format.specs.Tokens.{Forest, size, counts}
use Rattle.format.specs.Indexes.{product}
use Rattle.format.specs.Rows.{Ancestry, rows}
use Rattle.format.specs.Answers.{refused}
use Rattle.format.specs.Sequences.{Reader}
use Rattle.format.specs.Dimensions as Dimensions
use Rattle.rows.specs.Overlay.{lay}
use Rattle.tokens.specs.Answers.{Ends}
use Rattle.format.specs.declared.refusals.Refused.{Refused}
use Rattle.dimensions.specs.declared.Dims.{Dims}
use Rattle.dimensions.specs.declared.forms.Form.{Form}
use Rattle.dimensions.specs.declared.forms.Form.TheVariants.{Marked, Bare}

-- a number that is right up to the limit, and one over it where it would be more
abbrev pub capped : ℕ → ℕ
capped n = min n (limit + 1)

-- ---- dimensions

-- dimensions were read and now lie in the words from `row` on, as far as these reach; and their product
pub record Laid (o : Parsed Forest) (row : ℕ) (ancestry : Ancestry) (before after : List ℕ) (next row' many : ℕ) : Type 0 where
  pub forest : Forest
  pub read : o ≡ done (forest, next)
  pub took : row' ≡ row + size forest
  pub times : many ≡ capped (product (counts forest))
  pub lie : after ≡ lay before row (rows row ancestry forest)

-- the answer to a reader of dimensions: its refusal, whatever the words then hold; or what was read
abbrev pub Meets : Result Dims Refused → Parsed Forest → ℕ → Ancestry → List ℕ → List ℕ → Type 0
Meets (Err r) o row ancestry before after = o ≡ refused r
Meets (Ok d) o row ancestry before after = Laid o row ancestry before after d.at d.row d.many

-- where they end, and how many elements they give
abbrev pub Within : Result Dims Refused → ℕ → ℕ → ℕ → Type 0
Within (Err r) low high rows_lent = Unit {0}
Within (Ok d) low high rows_lent = Ends low high rows_lent d.at d.row × (d.many ≤ limit + 1)

-- ---- one of several dimensions: an integer record, or a bare integer under a mark

abbrev pub item_of : List ℕ → ℕ → Form → Reader
item_of m rows_lent Marked = Dimensions.marked m rows_lent
item_of m rows_lent (Bare mark) = Dimensions.bare m rows_lent mark

-- it has bytes
abbrev pub Wide : Form → Type 0
Wide Marked = Unit {0}
Wide (Bare mark) = 0 < width mark
