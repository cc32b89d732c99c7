-- What a table that is found by its number is.
use Rattle.std.specs.Prelude.{ℕ, suc, ◌≡◌, List, [], ◌∷◌, ◌++◌, length, eqb, Option, Some, None}
use Rattle.format.specs.Conditions.{when◌then◌else◌}
use Rattle.format.specs.Outcome.{fault, done}
use Rattle.format.specs.Refusals.{not_there}
use Rattle.format.specs.Marks.{Opening, opening_of}
use Rattle.format.specs.Tokens.{Kind, kind_number, Forest, none, node}
use Rattle.format.specs.Rows.{Row}
use Rattle.format.specs.Containers as Containers
use Rattle.format.specs.Grammars.{new}
use Rattle.format.specs.Read.{read_whole}
use Rattle.format.specs.Panel.{Table, tables, pick}
use Rattle.seek.specs.declared.steps.Table as steps

-- the new edition accepts this message
pub record Accepted (m : List ℕ) : Type 0 where
  pub tokens : Forest
  pub read : read_whole m new ≡ done tokens

-- the table with this number of a list: it begins and stands there, and is what is read there
pub record Found (m : List ℕ) (ts : List Table) (number : ℕ) (opening : Opening) (first row : ℕ) : Type 0 where
  pub table : Table
  pub picked : pick ts number ≡ done table
  pub begins : table.token.first ≡ first
  pub stands : table.row ≡ row
  pub end : ℕ
  pub read : Containers.table m (length m) opening first row ≡ done (node table.token table.under none, end)

-- the answer to a number, for a message whose tokens are these
abbrev pub TableMeets : Option steps.Table → List ℕ → Forest → ℕ → Type 0
TableMeets (Some t) m f number = Found m (tables 0 f) number (opening_of t.brace) t.first t.row
TableMeets None m f number = pick (tables 0 f) number ≡ fault not_there 0

-- the rows of this kind, by number, in a list that starts at row n
unfoldable pub of_kind : Kind → ℕ → List Row → List ℕ
of_kind kind n [] = []
of_kind kind n (r ∷ rs) = (when eqb (kind_number kind) r.kind then n ∷ [] else []) ++ of_kind kind (suc n) rs
