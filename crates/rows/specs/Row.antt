-- What storing a row does to lent words, and the row that the code's struct stands for.
use Rattle.std.specs.Prelude.{ℕ, ◌*◌, List, ltb}
use Rattle.std.proofs.lemmas.List.Edits.{sets}
use Rattle.format.specs.Conditions.{when◌then◌else◌}
use Rattle.format.specs.Rows as Rows
use Rattle.format.specs.Rows.{row_words, layout, rows_in}
use Rattle.rows.specs.declared.Row.{Row}
use Rattle.rows.specs.declared.Ancestry.{Ancestry}

abbrev pub row_of : Row → Rows.Row
row_of r = record {
  kind = r.kind;
  mark = r.mark;
  first = r.first;
  payload = r.payload;
  extent = r.extent;
  count = r.count;
  link = r.link;
  order = r.order;
  parent = r.parent;
  depth = r.depth;
}

-- a token's ancestry
abbrev pub ancestry_of : Ancestry → Rows.Ancestry
ancestry_of a = record { parent = a.parent; depth = a.depth }

-- no row: every word is 0
abbrev pub no_row : Rows.Row
no_row = record { kind = 0; mark = 0; first = 0; payload = 0; extent = 0; count = 0; link = 0; order = 0; parent = 0; depth = 0 }

-- a row is stored whole, or not at all where the words have no such row
unfoldable pub store : List ℕ → ℕ → Rows.Row → List ℕ
store ws row r = when ltb row (rows_in ws) then sets ws (row * row_words) (layout r) else ws
