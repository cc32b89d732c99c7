-- What the answer to a whole message stands for.
use Rattle.std.specs.Prelude.{ℕ, ◌≤◌, ◌≡◌, List, Result, Ok, Err}
use Rattle.format.specs.Outcome.{Outcome, fault, done}
use Rattle.format.specs.Tokens.{Forest, size}
use Rattle.format.specs.Rows.{all_rows, zeros}
use Rattle.rows.specs.Overlay.{lay}
use Rattle.format.specs.Answers.{refused}
use Rattle.format.specs.declared.refusals.Refused.{Refused}

-- the message's tokens lie in the words from the first row on, as far as these reach
pub record Lies (o : Outcome Forest) (before after : List ℕ) (row : ℕ) : Type 0 where
  pub forest : Forest
  pub read : o ≡ done forest
  pub took : row ≡ size forest
  pub lie : after ≡ lay before 0 (all_rows forest)

abbrev pub WholeMeets : Result ℕ Refused → Outcome Forest → List ℕ → List ℕ → Type 0
WholeMeets (Err r) o before after = o ≡ refused r
WholeMeets (Ok row) o before after = Lies o before after row

abbrev pub WholeWithin : Result ℕ Refused → ℕ → Type 0
WholeWithin (Err r) lent = Unit {0}
WholeWithin (Ok row) lent = row ≤ lent

-- the words of a table of so many words that holds the first rows alone, as many as it has room for; all zero on refusal
unfoldable pub front_words : ℕ → Outcome Forest → List ℕ
front_words words (fault n p) = zeros words
front_words words (done f) = lay (zeros words) 0 (all_rows f)
