-- What is written of a shape in house form, beside its dimensions.
use Rattle.std.specs.Prelude.{ℕ, List, [], ◌∷◌, eqb}
use Rattle.format.specs.Conditions.{when◌then◌else◌}
use Rattle.format.specs.Marks.{'[', ']'}
use Rattle.format.specs.Tokens.{plain_count, first_slowest}
use Rattle.format.specs.HouseForm.{small_integer}

-- what stands before its dimensions: the plain count, or one bracket or two
unfoldable pub shape_start : ℕ → ℕ → List ℕ
shape_start order n =
    when eqb order plain_count then small_integer n else
    when eqb order first_slowest then '[' ∷ [] else
    '[' ∷ '[' ∷ []

-- and what stands after them
unfoldable pub shape_end : ℕ → List ℕ
shape_end order =
    when eqb order plain_count then [] else
    when eqb order first_slowest then ']' ∷ [] else
    ']' ∷ ']' ∷ []
