-- 01, "The panel": what its three calls answer from the message only. Rows count as enough. Request
-- No. 1: the edition is the new one.
use Rattle.std.specs.Prelude.{ℕ, zero, suc, ◌+◌, ◌&&◌, List, [], ◌∷◌, ◌++◌, map, eqb}
use Rattle.format.specs.Conditions.{when◌then◌else◌}
use Rattle.format.specs.Outcome.{Outcome, fault, done, number_of, place_of, ◌>>=◌}
use Rattle.format.specs.Refusals.{not_there}
use Rattle.format.specs.Tokens.{Token, table, is_kind, Forest, none, node, size, below_first}
use Rattle.format.specs.Indexes.{below}
use Rattle.format.specs.Storage.{Slot, member_row, leaves, slots_of}
use Rattle.format.specs.Addresses.{Region}
use Rattle.format.specs.Read.{read_whole, rows_used}
use Rattle.format.specs.Grammars.{new}

-- a table: its row, its token, and those below it
pub record Table : Type 0 where
  pub row : ℕ
  pub token : Token
  pub under : Forest

-- the tables of a forest from row n on, in message order
unfoldable pub tables : ℕ → Forest → List Table
tables n none = []
tables n (node t under after) =
    (when is_kind table t.kind then record { row = n; token = t; under = under } ∷ [] else tables (suc n) under)
    ++ tables (suc n + size under) after

-- the rows of the leaves of one record of a table, in schema order
unfoldable pub leaf_rows : Table → List ℕ
leaf_rows t = map (λ s. s.leaf_row) (leaves {A = ℕ} (member_row t.row) (below_first t.under) 0 0)

-- the i-th of a list, from 0
unfoldable pub pick : {A : Type 0} → List A → ℕ → Outcome A
pick [] i = fault not_there 0
pick (a ∷ l) zero = done a
pick (a ∷ l) (suc i) = pick l i

-- the slot of a leaf and a record
unfoldable pub slot_for : ℕ → ℕ → List (Slot ℕ) → Outcome (Slot ℕ)
slot_for leaf_row number [] = fault not_there 0
slot_for leaf_row number (s ∷ ss) =
    when eqb s.leaf_row leaf_row && eqb s.element number then done s else slot_for leaf_row number ss

-- number and place
unfoldable pub number_and_place : List ℕ → ℕ × ℕ
number_and_place m = (number_of (read_whole m new), place_of (read_whole m new))

-- rows needed
abbrev pub rows_needed : List ℕ → Outcome ℕ
rows_needed m = rows_used (read_whole m new)

-- a slot's first byte and width, with its mark, by table, leaf and record, all from 0, records in storage order
unfoldable pub panel_slot : List ℕ → ℕ → ℕ → ℕ → Outcome Region
panel_slot m table_number leaf_number record_number = do
  f ← read_whole m new
  t ← pick (tables 0 f) table_number
  leaf_row ← pick (leaf_rows t) leaf_number
  s ← slot_for leaf_row record_number (slots_of t.row t.token t.under (below t.token.count))
  done (record { mark = s.mark; first = t.token.payload + s.offset; wide = s.wide })
