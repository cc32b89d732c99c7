-- A table that is found is a token of the message, and its row is that token's. Assumes nothing.
use Prim.Native.Nat.{ℕ}
use mathlib.Core.Path.{◌≡◌}
use mathlib.Core.List.{List}
use Rattle.format.specs.Marks.{Opening}
use Rattle.format.specs.Tokens.{table, Forest}
use Rattle.format.specs.Panel.{tables}
use Rattle.laws.specs.Places.{At}
use Rattle.panel_laws.proofs.Picks.{table_picked}
use Rattle.seek.specs.Tables.{Found}

-- The row that is answered is the row of the message's token.
pub found_stands : (m : List ℕ) (f : Forest) (number : ℕ) (opening : Opening) (first row : ℕ) (h : Found m (tables 0 f) number opening first row)
    → At 0 f row h.table.token h.table.under × (h.table.token.kind ≡ table)
found_stands m f number opening first row h =
    let s = table_picked f number h.table h.picked in (rw (← h.stands) s.found, s.is_table)
