-- The leaves among rows: word 0 of a row is its kind.
use Rattle.std.specs.Prelude.{◌≡◌, ℕ, ◌+◌, ◌<◌, ◌≤◌, ◌≢◌, List}
use Rattle.format.specs.Rows.{word}
use Rattle.format.specs.Tokens.{kind_number, leaf}

-- none of the rows from one on, before another, is a leaf's
abbrev pub HasNoLeaf : List ℕ → ℕ → ℕ → Type 0
HasNoLeaf rows from end = (k : ℕ) → from ≤ k → k < end → word rows k 0 ≢ kind_number leaf

-- the row before `next` is the first leaf's among the rows from one on, before another
abbrev pub IsPastFirstLeaf : List ℕ → ℕ → ℕ → ℕ → Type 0
IsPastFirstLeaf rows from end next =
    (row : ℕ) × (row + 1 ≡ next) × (from ≤ row) × (row < end) × (word rows row 0 ≡ kind_number leaf) × HasNoLeaf rows from row
