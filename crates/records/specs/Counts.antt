-- What is answered about a table's count, whatever the row that its dimensions stand at.
use Rattle.std.specs.Prelude.{ℕ, ◌≤◌, ◌≡◌, false, List, length}
use Rattle.format.specs.Outcome.{done}
use Rattle.format.specs.Limits.{limit}
use Rattle.format.specs.Dimensions.{Shape, shape}
use Rattle.records.specs.declared.counts.Count.{Count}

-- the payload's first byte, and how many records
pub record CountOver (n : Shape) (start : ℕ) (r : Count) : Type 0 where
  pub started : r.start ≡ start
  pub times : r.many ≡ n.many

-- if it is read, and within the limit
abbrev pub CountRead : List ℕ → ℕ → Count → Type 0
CountRead m at r =
    (lent row start : ℕ) (n : Shape) → length m ≤ limit → row ≤ lent → shape m lent false at row ≡ done (n, start) → n.many ≤ limit → CountOver n start r
