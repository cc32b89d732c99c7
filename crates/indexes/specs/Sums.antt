-- Whole numbers, capped at the highest that a machine word holds.
use Rattle.std.specs.Prelude.{ℕ, min}

abbrev pub most : ℕ
most = 0xFFFFFFFFFFFFFFFF

abbrev pub capped : ℕ → ℕ
capped n = min n most
