-- 01's formulas for a slot: payload P, N records of R bytes, record r, leaf offset o, in a top-level field with offset f and width w.
use Rattle.std.specs.Prelude.{ℕ, ◌+◌, ◌-◌, ◌*◌}
use Rattle.format.specs.Marks.{width}
use Rattle.format.specs.Tokens.{Token}
use Rattle.format.specs.Addresses.{Region}

-- element r of a packed array: as wide as its mark says
unfoldable pub in_array : Token → ℕ → Region
in_array t r = record { mark = t.mark; first = t.payload + r * width t.mark; wide = width t.mark }

-- a leaf in record r of a table by rows, given the table's token and its schema's: P + rR + o, as wide as the leaf
unfoldable pub in_row : Token → Token → Token → ℕ → Region
in_row t schema leaf r = record { mark = leaf.mark; first = t.payload + r * schema.extent + leaf.payload; wide = leaf.extent }

-- by columns, given the leaf's field: P + Nf + rw + (o − f)
unfoldable pub in_column : Token → Token → Token → ℕ → Region
in_column t field leaf r = record {
  mark = leaf.mark;
  first = t.payload + t.count * field.payload + r * field.extent + (leaf.payload - field.payload);
  wide = leaf.extent;
}
