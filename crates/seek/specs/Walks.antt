-- What the answers of a walk over tokens stand for.
use Rattle.std.specs.Prelude.{ℕ, ◌+◌, ◌≡◌, List, length, Result, Ok, Err}
use Rattle.format.specs.Outcome.{Parsed, done}
use Rattle.format.specs.Marks.{opening_of}
use Rattle.format.specs.Tokens.{Forest, size}
use Rattle.format.specs.Panel.{tables}
use Rattle.tokens.specs.Answers.{Ends}
use Rattle.seek.specs.Tables.{Found}
use Rattle.seek.specs.declared.steps.Past.{Past}
use Rattle.seek.specs.declared.steps.Stop.{Stop}
use Rattle.seek.specs.declared.steps.Stop.TheVariants.{Unread, Found as AtTable}

-- tokens up to `next` are passed, from `row` on: of the tables to pass, theirs are passed
pub record Passed (row left : ℕ) (f : Forest) (next next' row' left' : ℕ) : Type 0 where
  pub ended : next' ≡ next
  pub took : row' ≡ row + size f
  pub fewer : left ≡ length (tables row f) + left'

-- a walk over tokens up to `next`
abbrev pub Comes : Result Past Stop → List ℕ → ℕ → ℕ → Forest → ℕ → Type 0
Comes (Ok p) m row left f next = Passed row left f next p.at p.row p.left
Comes (Err Unread) m row left f next = ⊥
Comes (Err (AtTable t)) m row left f next = Found m (tables row f) left (opening_of t.brace) t.first t.row

-- a walk over what a reader gives, if it gives tokens
abbrev pub Walks : Result Past Stop → List ℕ → ℕ → ℕ → Parsed Forest → Type 0
Walks s m row left o = (f : Forest) (next : ℕ) → o ≡ done (f, next) → Comes s m row left f next

-- where it ends
abbrev pub PastWithin : Result Past Stop → ℕ → ℕ → Type 0
PastWithin (Ok p) low high = Ends low high high p.at p.row
PastWithin (Err s) low high = Unit {0}
