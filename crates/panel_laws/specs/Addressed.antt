-- A slot by table, leaf and record, as the address call answers it on a message's rows.
use Rattle.std.specs.Prelude.{ℕ, List, length}
use Rattle.format.specs.Outcome.{Outcome, ◌>>=◌}
use Rattle.format.specs.Tokens.{Forest}
use Rattle.format.specs.Indexes.{indexes}
use Rattle.format.specs.Storage.{dimensions_of}
use Rattle.format.specs.Addresses.{Region, table_slot}
use Rattle.format.specs.Panel.{tables, leaf_rows, pick}

-- given the message, the words of its rows and its tokens: the table's row, the leaf's, and the indexes that the record has in storage
-- order, all counted from 0
unfoldable pub by_address : List ℕ → List ℕ → Forest → ℕ → ℕ → ℕ → Outcome Region
by_address m ws f table_number leaf_number record_number = do
  t ← pick (tables 0 f) table_number
  leaf_row ← pick (leaf_rows t) leaf_number
  is ← pick (indexes t.token.order (dimensions_of t.token t.under)) record_number
  table_slot ws (length m) t.row leaf_row is
