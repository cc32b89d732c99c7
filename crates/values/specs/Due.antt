-- The bytes that a mark asks for in a token of a kind: as many as go with it, and one for a leaf's `T`.
use Rattle.std.specs.Prelude.{ℕ}
use Rattle.format.specs.Conditions.{when◌then◌else◌}
use Rattle.format.specs.Marks.{width, leaf_width}
use Rattle.format.specs.Tokens.{Kind, leaf, is_kind}

unfoldable pub due : Kind → ℕ → ℕ
due kind mark = when is_kind leaf kind then leaf_width mark else width mark
