-- Whether a byte stands at a place.
use Rattle.std.specs.Prelude.{ℕ, Bool, ◌&&◌, List, length, get_or, ltb, eqb}

-- a byte is there, and is this one
unfoldable pub stands : List ℕ → ℕ → ℕ → Bool
stands m at mark = ltb at (length m) && eqb (get_or m at 0) mark
