-- The slot of a leaf and a record of a table: what `Panel.panel_slot` answers once the table is found.
use Rattle.std.specs.Prelude.{ℕ, ◌+◌, ◌-◌, ◌*◌, ◌≤◌, ◌<◌, ◌≡◌, List, length}
use Rattle.format.specs.Limits.{limit, record_limit}
use Rattle.format.specs.Outcome.{Outcome, done, ◌>>=◌}
use Rattle.format.specs.Marks.{Opening, bracket, brace}
use Rattle.format.specs.Tokens.{Token, Forest, none, node}
use Rattle.format.specs.Containers as Containers
use Rattle.format.specs.Indexes.{below}
use Rattle.format.specs.Storage.{slots_of}
use Rattle.format.specs.Addresses.{Region}
use Rattle.format.specs.Panel.{Table, leaf_rows, pick, slot_for}

abbrev pub table_of : ℕ → Token → Forest → Table
table_of row token under = record { row = row; token = token; under = under }

-- a table begins here, in a message that isn't too long
pub record TableHere (m : List ℕ) (opening : Opening) (at : ℕ) : Type 0 where
  pub short : length m ≤ limit
  pub lent : ℕ
  pub row : ℕ
  pub next : ℕ
  pub token : Token
  pub under : Forest
  pub read : Containers.table m lent opening at row ≡ done (node token under none, next)

-- by leaf, in schema order, and record, in storage order, both from 0
unfoldable pub slot_of : Table → ℕ → ℕ → Outcome Region
slot_of t leaf_number record_number = do
  leaf_row ← pick (leaf_rows t) leaf_number
  s ← slot_for leaf_row record_number (slots_of t.row t.token t.under (below t.token.count))
  done (record { mark = s.mark; first = t.token.payload + s.offset; wide = s.wide })

-- where it stands by 01's formulas, counted from the payload's first byte: N records of R bytes, record r, leaf offset o, in a
-- top-level field with offset f and width w
abbrev pub leaf_place : Opening → ℕ → ℕ → ℕ → ℕ → ℕ → ℕ → ℕ
leaf_place bracket many r wide o f w = r * wide + o
leaf_place brace many r wide o f w = many * f + r * w + (o - f)

-- with numbers that are within the limits
pub record InTable (many r wide o f w : ℕ) : Type 0 where
  pub there : r < many
  pub few : many ≤ limit + 1
  pub wide_within : wide ≤ record_limit
  pub offset_within : o ≤ record_limit
  pub field_within : f ≤ record_limit
  pub span_within : w ≤ record_limit
