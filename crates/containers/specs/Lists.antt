-- What the answer to a list of members stands for.
use Rattle.std.specs.Prelude.{ℕ, ◌+◌, ◌≤◌, ◌≡◌, List, Result, Ok, Err}
use Rattle.format.specs.Outcome.{Parsed, done, ◌>>=◌}
use Rattle.format.specs.Marks.{Opening}
use Rattle.format.specs.Tokens.{Forest}
use Rattle.format.specs.Rows.{Ancestry}
use Rattle.format.specs.Sequences.{Reader, ◌⨾◌}
use Rattle.format.specs.Scalars.{key, unmarked}
use Rattle.format.specs.Containers.{container}
use Rattle.tokens.specs.Answers.{Laid, Ends}
use Rattle.format.specs.Answers.{refused}
use Rattle.format.specs.declared.refusals.Refused.{Refused}
use Rattle.tokens.specs.declared.Members.{Members}

-- an array or object over what it holds, given what reading that gave
unfoldable pub closed : Opening → ℕ → ℕ → ℕ → Parsed Forest → Parsed Forest
closed opening at start shut o = o >>= (λ r. done (container opening at start r.1 r.0, r.1 + shut))

-- members were read and now lie in the words from `row` on
abbrev pub ListLaid : Members → Parsed Forest → ℕ → Ancestry → List ℕ → List ℕ → Type 0
ListLaid l o row ancestry before after = Laid o row l.count ancestry before after l.at l.row

abbrev pub ListMeets : Result Members Refused → Parsed Forest → ℕ → Ancestry → List ℕ → List ℕ → Type 0
ListMeets (Err r) o row ancestry before after = o ≡ refused r
ListMeets (Ok l) o row ancestry before after = ListLaid l o row ancestry before after

-- there are as many as bytes at most
pub record ListEnds (low high lent : ℕ) (l : Members) : Type 0 where
  pub ends : Ends low high lent l.at l.row
  pub few : l.count ≤ l.at

abbrev pub ListWithin : Result Members Refused → ℕ → ℕ → ℕ → Type 0
ListWithin (Err r) low high lent = Unit {0}
ListWithin (Ok l) low high lent = ListEnds low high lent l

-- a typed object's member
unfoldable pub pair_of : List ℕ → ℕ → ℕ → Reader
pair_of m lent mark = key m lent ⨾ unmarked m lent mark
