-- What is said of gathered extents.
use Rattle.std.specs.Prelude.{ℕ, ◌≤◌, ◌≡◌, List, length, take, Result, Ok, Err}
use Rattle.format.specs.Conditions.{between}
use Rattle.format.specs.Outcome.{Outcome, fault, done, guard, ◌>>=◌, ◌>>◌}
use Rattle.format.specs.Limits.{dimension_limit}
use Rattle.format.specs.Refusals.{rows_dont_fit}
use Rattle.format.specs.Addresses.{dimensions_from}
use Rattle.format.specs.Answers.{refusal_number}
use Rattle.format.specs.declared.refusals.Refusal.{Refusal}

-- the dimensions of a container from a row on, one to eight of them
unfoldable pub some_few : List ℕ → ℕ → ℕ → Outcome (List ℕ)
some_few ws container row = do
  ds ← dimensions_from ws (length ws) container row
  guard (between 1 dimension_limit (length ds)) rows_dont_fit 0
  done ds

-- the answer: the refusal; or the extents are the first of the words
abbrev pub Gathers : Result ℕ Refusal → Outcome (List ℕ) → List ℕ → Type 0
Gathers (Err r) o into = o ≡ fault (refusal_number r) 0
Gathers (Ok n) o into = (o ≡ done (take n into)) × (n ≤ length into) × (length into ≡ dimension_limit)
