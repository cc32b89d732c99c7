-- The members of a schema and of a fixed array: with keys, and without.
use Rattle.std.specs.Prelude.{ℕ, ◌≤◌, ◌≡◌, List}
use Rattle.format.specs.Outcome.{done}
use Rattle.format.specs.Marks.{Opening, bracket, brace}
use Rattle.format.specs.Tokens.{Token, key as kind_of_key, Forest, none, node}
use Rattle.format.specs.Sequences.{Reader, ◌⨾◌}
use Rattle.format.specs.Scalars.{key}

-- a member, given what reads its kind
unfoldable pub item_of : List ℕ → ℕ → Opening → Reader → Reader
item_of m lent bracket kind = kind
item_of m lent brace kind = key m lent ⨾ kind

-- a member, and what it is without its key
pub data Unkeyed : Forest → Forest → Type 0 where
  bare : {f : Forest} → Unkeyed f f
  named : {t : Token} {f : Forest} → t.kind ≡ kind_of_key → Unkeyed (node t none f) f

-- of a member that was read, its kind was read from here on
pub record Keyed (lent : ℕ) (kind : Reader) (f : Forest) (next at : ℕ) : Type 0 where
  pub row : ℕ
  pub lent_row : row ≤ lent
  pub member : Forest
  pub reads : kind at row ≡ done (member, next)
  pub unkeyed : Unkeyed f member
