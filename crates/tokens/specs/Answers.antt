-- How the core's answers stand to the outcomes of the definitions, and to the lent words.
use Rattle.std.specs.Prelude.{ℕ, ◌+◌, ◌^◌, ◌≤◌, ◌<◌, ◌≡◌, List, length, Result, Ok, Err}
use Rattle.format.specs.Outcome.{Parsed, done, ◌>>=◌}
use Rattle.format.specs.Limits.{limit}
use Rattle.format.specs.Tokens as Tokens
use Rattle.format.specs.Tokens.{Forest, alone, size, ◌⊕◌, members}
use Rattle.format.specs.Rows.{Ancestry, rows}
use Rattle.format.specs.Answers.{refused, kind_of}
use Rattle.rows.specs.Overlay.{lay}
use Rattle.tokens.specs.declared.entry.Entry.{Entry}
use Rattle.format.specs.declared.refusals.Refused.{Refused}
use Rattle.tokens.specs.declared.End.{End}

-- ---- a token's row

-- the token that the code's struct stands for
abbrev pub token_of : Entry → Tokens.Token
token_of e = record {
  kind = kind_of e.kind;
  mark = e.mark;
  first = e.first;
  payload = e.payload;
  extent = e.extent;
  count = e.count;
  order = e.order;
}

-- what a row holds fits 32 bits
pub record Narrow (e : Entry) (link : ℕ) : Type 0 where
  pub first : e.first < 2 ^ 32
  pub payload : e.payload < 2 ^ 32
  pub extent : e.extent < 2 ^ 32
  pub count : e.count < 2 ^ 32
  pub linked : link < 2 ^ 32

-- ---- the place after a payload

-- it lies between
abbrev pub PlaceWithin : Result ℕ Refused → ℕ → ℕ → Type 0
PlaceWithin (Ok end) low high = (low ≤ end) × (end ≤ high)
PlaceWithin (Err r) low high = Unit {0}

-- ---- what was read

-- tokens of k members were read and now lie in the words from `row` on, as far as these reach
pub record Laid (o : Parsed Forest) (row k : ℕ) (ancestry : Ancestry) (before after : List ℕ) (next row' : ℕ) : Type 0 where
  pub forest : Forest
  pub read : o ≡ done (forest, next)
  pub counted : members forest ≡ k
  pub took : row' ≡ row + size forest
  pub lie : after ≡ lay before row (rows row ancestry forest)

-- a forest, and then what remains to be read
unfoldable pub onto : Forest → Parsed Forest → Parsed Forest
onto f o = o >>= (λ r. done (f ⊕ r.0, r.1))

-- the answer to a reader that gives k members: its refusal, whatever the words then hold; or what was read
abbrev pub Meets : Result End Refused → Parsed Forest → ℕ → ℕ → Ancestry → List ℕ → List ℕ → Type 0
Meets (Err r) o row k ancestry before after = o ≡ refused r
Meets (Ok e) o row k ancestry before after = Laid o row k ancestry before after e.at e.row

-- ---- places and rows

-- where a token may begin: a row for each byte before it at most
pub record Here (m : List ℕ) (rows_lent at row : ℕ) : Type 0 where
  pub short : length m ≤ limit
  pub inside : at ≤ length m
  pub row_lent : row ≤ rows_lent
  pub row_byte : row ≤ at

-- where it ends: from `low` on, and again a row for each byte before it at most
pub record Ends (low high rows_lent next row : ℕ) : Type 0 where
  pub on : low ≤ next
  pub inside : next ≤ high
  pub row_lent : row ≤ rows_lent
  pub row_byte : row ≤ next

abbrev pub Within : Result End Refused → ℕ → ℕ → ℕ → Type 0
Within (Err r) low high rows_lent = Unit {0}
Within (Ok e) low high rows_lent = Ends low high rows_lent e.at e.row
