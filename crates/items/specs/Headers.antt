-- What the answers to an opening mark stand for.
use Rattle.std.specs.Prelude.{ℕ, ◌+◌, ◌-◌, ◌≤◌, ◌<◌, ◌≡◌, List, length, get_or, Result, Ok, Err}
use Rattle.format.specs.Grammars.{Grammar}
use Rattle.format.specs.Limits.{limit}
use Rattle.format.specs.Marks.{Opening, bracket, opens, closes, '#', '$'}
use Rattle.format.specs.Bytes.{skip}
use Rattle.format.specs.Sequences.{Reader, repeat, spaced, until}
use Rattle.format.specs.Containers.{typed, items}
use Rattle.format.specs.Read.{value_by, nested}
use Rattle.format.specs.Answers.{refused}
use Rattle.format.specs.declared.refusals.Refused.{Refused}
use Rattle.containers.specs.Lists.{closed}
use Rattle.items.specs.declared.headers.Header.{Header}
use Rattle.items.specs.declared.headers.Header.TheVariants.{Typed, Counted, Plain}

-- a member of a container, with so many levels left for what nests in it
unfoldable pub member_of : List ℕ → ℕ → Grammar → ℕ → Opening → Reader
member_of m lent grammar levels opening = items m lent opening (value_by m lent grammar (nested m lent grammar levels))

-- ---- what follows an opening mark, whichever it is, in any grammar

abbrev pub HeaderMeets : Result Header Refused → List ℕ → ℕ → ℕ → ℕ → ℕ → Type 0
HeaderMeets (Err r) m lent levels at row = (grammar : Grammar) (o : Opening) → nested m lent grammar levels o at row ≡ refused r
HeaderMeets (Ok Typed) m lent levels at row = (grammar : Grammar) (o : Opening) → nested m lent grammar levels o at row ≡ typed m lent o at row
HeaderMeets (Ok (Counted n start)) m lent levels at row = (grammar : Grammar) (o : Opening)
    → nested m lent grammar levels o at row ≡ closed o at start 0 (repeat n (spaced m (member_of m lent grammar (levels - 1) o)) start (row + 1))
HeaderMeets (Ok Plain) m lent levels at row = (grammar : Grammar) (o : Opening)
    → nested m lent grammar levels o at row ≡ closed o at (at + 1) 1 (until m (length m) (skip m) (closes o) (member_of m lent grammar (levels - 1) o) (at + 1) (row + 1))

-- a row is left, and a level; the count is within the limit, and the first member's place within the message
abbrev pub HeaderWithin : Result Header Refused → ℕ → ℕ → ℕ → ℕ → ℕ → ℕ → Type 0
HeaderWithin (Err r) low high lent levels at row = Unit {0}
HeaderWithin (Ok Typed) low high lent levels at row = (row < lent) × (low ≤ high)
HeaderWithin (Ok (Counted n start)) low high lent levels at row = (row < lent) × (0 < levels) × (n ≤ limit) × (low ≤ start) × (start ≤ high)
HeaderWithin (Ok Plain) low high lent levels at row = (row < lent) × (0 < levels) × (low ≤ high)

-- a plain container opens in an array: with a level and a row left, and neither `$` nor `#` after its mark
pub record OpensPlain (m : List ℕ) (lent levels : ℕ) (outer inner : Opening) (at row : ℕ) : Type 0 where
  pub within : outer ≡ bracket
  pub opening : get_or m at 0 ≡ opens inner
  pub deep : 0 < levels
  pub left : row < lent
  pub there : at + 1 < length m
  pub not_typed : get_or m (at + 1) 0 ≡ '$' → ⊥
  pub not_counted : get_or m (at + 1) 0 ≡ '#' → ⊥
