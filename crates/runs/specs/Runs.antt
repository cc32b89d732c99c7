-- Members that are read one after another, with no `N` between them.
use Rattle.std.specs.Prelude.{ℕ, ◌+◌, ◌-◌, ◌≤◌, ◌<◌, ◌≡◌, List, length, get_or, eqb}
use Rattle.format.specs.Grammars.{Grammar}
use Rattle.format.specs.Outcome.{done}
use Rattle.format.specs.Conditions.{when◌then◌else◌}
use Rattle.format.specs.Marks.{Opening, closes, 'S'}
use Rattle.format.specs.Tokens.{Kind, Token, text, scalar, alone, uncounted, Forest, size, members}
use Rattle.format.specs.Rows.{Ancestry, rows}
use Rattle.format.specs.Bytes.{skip}
use Rattle.format.specs.Sequences.{Reader, repeat, until, spaced}
use Rattle.format.specs.Containers.{items}
use Rattle.format.specs.Read.{value_by}
use Rattle.rows.specs.Overlay.{lay}
use Rattle.tokens.specs.Answers.{onto}
use Rattle.tokens.specs.declared.Members.{Members}

-- the first payload byte of a text whose length stands under `U`, or of a scalar under this mark
unfoldable pub value_start : ℕ → ℕ → ℕ
value_start mark at = when eqb mark 'S' then at + 3 else at + 1

-- its token
unfoldable pub value_token : ℕ → ℕ → ℕ → Token
value_token mark at end = uncounted (when eqb mark 'S' then text else scalar) mark at (value_start mark at) (end - value_start mark at)

-- a member may begin here: no `N` stands here, and not the closing mark
pub record Begins (m : List ℕ) (closing at : ℕ) : Type 0 where
  pub there : at < length m
  pub here : skip m at ≡ at
  pub more : get_or m at 0 ≡ closing → ⊥

-- a value that is one token stands at `at` and ends before `end`, whatever reads a container
pub record Stands (m : List ℕ) (at : ℕ) (t : Token) (end : ℕ) : Type 0 where
  pub starts : (opening : Opening) → Begins m (closes opening) at
  pub on : at < end
  pub one : members (alone t) ≡ 1
  pub read : (lent row : ℕ) → row < lent → (grammar : Grammar) (nested : Opening → Reader) → value_by m lent grammar nested at row ≡ done (alone t, end)

-- one of this kind does, with its payload so many bytes after its first
pub record StandsAlone (m : List ℕ) (kind : Kind) (ahead at end : ℕ) : Type 0 where
  pub stands : Stands m at (uncounted kind (get_or m at 0) at (at + ahead) (end - (at + ahead))) end
  pub payload : at + ahead ≤ end
  pub inside : end ≤ length m

-- what is read up to the closing mark is these, and then what is read from here
pub record Goes (m : List ℕ) (closing : ℕ) (item : Reader) (start first : ℕ) (forest : Forest) (at row fuel : ℕ) : Type 0 where
  pub left : ℕ
  pub enough : length m ≤ at + left
  pub is : until m fuel (skip m) closing item start first ≡ onto forest (until m left (skip m) closing item at row)

-- `count` members are read and lie in the words from `first` on; what is read from `start` is these, and then what is read from
-- here: of so many members, and of those up to the closing mark. Where there are none, nothing is changed
pub record Passed (m : List ℕ) (closing : ℕ) (item : Reader) (start first : ℕ) (ancestry : Ancestry) (before : List ℕ) (at row count : ℕ) (now : List ℕ) : Type 0 where
  pub forest : Forest
  pub counted : members forest ≡ count
  pub took : row ≡ first + size forest
  pub lie : now ≡ lay before first (rows first ancestry forest)
  pub some : (n : ℕ) → repeat (count + n) (spaced m item) start first ≡ onto forest (repeat n (spaced m item) at row)
  pub still : count ≡ 0 → (at ≡ start) × (row ≡ first) × (now ≡ before)
  pub goes : (fuel : ℕ) → length m ≤ start + fuel → Goes m closing item start first forest at row fuel

-- the members of an array or object, whatever reads a container in them
abbrev pub PassedIn : List ℕ → ℕ → Opening → ℕ → ℕ → Ancestry → List ℕ → Members → List ℕ → Type 0
PassedIn m lent opening start first ancestry before r now =
    (grammar : Grammar) (nested : Opening → Reader) → Passed m (closes opening) (items m lent opening (value_by m lent grammar nested)) start first ancestry before r.at r.row r.count now

-- where a run ends: so many members at most, each with a byte, and again a row for each byte before at most
pub record RunEnds (most start high lent : ℕ) (r : Members) : Type 0 where
  pub on : start + r.count ≤ r.at
  pub inside : r.at ≤ high
  pub row_lent : r.row ≤ lent
  pub row_byte : r.row ≤ r.at
  pub few : r.count ≤ most

-- what a loop answers: the members that it passed, and where it ends
abbrev pub RunMeets : Members → List ℕ → ℕ → Opening → ℕ → ℕ → ℕ → Ancestry → List ℕ → List ℕ → Type 0
RunMeets r m lent opening most start first ancestry before now = PassedIn m lent opening start first ancestry before r now × RunEnds most start (length m) lent r
