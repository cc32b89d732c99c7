-- What the answers of the reader's containers stand for.
use Rattle.std.specs.Prelude.{ℕ, ◌+◌, ◌≤◌, ◌<◌, ◌≡◌, List, length, Result, Ok, Err}
use Rattle.format.specs.Grammars.{Grammar}
use Rattle.format.specs.Marks.{Opening, closes}
use Rattle.format.specs.Rows.{Ancestry}
use Rattle.format.specs.Bytes.{skip}
use Rattle.format.specs.Sequences.{Reader, until}
use Rattle.items.specs.Headers.{member_of}
use Rattle.containers.specs.Lists.{ListMeets, ListWithin}
use Rattle.format.specs.Answers.{refused}
use Rattle.format.specs.declared.refusals.Refused.{Refused}
use Rattle.tokens.specs.declared.Members.{Members}
use Rattle.runs.specs.Runs.{Passed}

-- ---- members up to the closing mark

-- what is read of them, with any fuel that the message can't use up
abbrev pub PlainMeets : Result Members Refused → List ℕ → ℕ → Grammar → ℕ → Opening → ℕ → ℕ → Ancestry → List ℕ → List ℕ → Type 0
PlainMeets r m lent grammar levels opening start first ancestry before after = (fuel : ℕ) → length m ≤ start + fuel
    → ListMeets r (until m fuel (skip m) (closes opening) (member_of m lent grammar levels opening) start first) first ancestry before after

-- ---- members that follow

-- a member's fault; or that it, and those of its sort after it, are read
abbrev pub FollowingMeets : Result Members Refused → List ℕ → ℕ → Reader → ℕ → ℕ → Ancestry → List ℕ → List ℕ → Type 0
FollowingMeets (Err r) m closing item at row ancestry before after = item at row ≡ refused r
FollowingMeets (Ok l) m closing item at row ancestry before after = Passed m closing item at row ancestry before l.at l.row l.count after

-- each has a byte, one at least is read, and a row for each byte before at most
pub record FollowingEnds (at high lent next row count : ℕ) : Type 0 where
  pub on : at < next
  pub few : at + count ≤ next
  pub inside : next ≤ high
  pub row_lent : row ≤ lent
  pub row_byte : row ≤ next

abbrev pub FollowingWithin : Result Members Refused → ℕ → ℕ → ℕ → Type 0
FollowingWithin (Err r) at high lent = Unit {0}
FollowingWithin (Ok l) at high lent = FollowingEnds at high lent l.at l.row l.count

-- members up to the closing mark from any `start` on, given that `count` of them are read and end before `at` and `row`
abbrev pub RestMeets : Result Members Refused → List ℕ → ℕ → Grammar → ℕ → Opening → ℕ → ℕ → ℕ → Ancestry → List ℕ → List ℕ → Type 0
RestMeets r m lent grammar levels opening at row count ancestry now after = (start first : ℕ) (before : List ℕ)
    → Passed m (closes opening) (member_of m lent grammar levels opening) start first ancestry before at row count now → PlainMeets r m lent grammar levels opening start first ancestry before after

-- each member of a list from `start` on has a byte
abbrev pub EachByte : Result Members Refused → ℕ → Type 0
EachByte (Err r) start = Unit {0}
EachByte (Ok l) start = start + l.count ≤ l.at

-- where these end
abbrev pub RestWithin : Result Members Refused → ℕ → ℕ → ℕ → ℕ → Type 0
RestWithin r high lent at count = (start : ℕ) → start + count ≤ at → ListWithin r start high lent × EachByte r start
