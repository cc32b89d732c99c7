-- Lent words or bytes that are cleared from a place on.
use Rattle.std.specs.Prelude.{ℕ, ◌-◌, List, ◌++◌, length, take}
use Rattle.format.specs.Rows.{zeros}

-- those before the place, and zeros from there on
abbrev pub cleared_from : List ℕ → ℕ → List ℕ
cleared_from l from = take from l ++ zeros (length l - from)
