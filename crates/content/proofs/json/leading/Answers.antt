-- `leading`: 0, or another digit. Assumes nothing.
use borrow.Author.Tests.{eq-eqb, ne_eqb}
use Rattle.format.specs.Conditions.{when◌then◌else◌}
use Rattle.format.specs.JsonNumber as Json
use Rattle.content.proofs.json.leading.Goals as goal

pub returns-then-b-eq48 : goal.returns-then-b-eq48
unfolding Json.leading when◌then◌else◌
returns-then-b-eq48 c =
    rw (eq-eqb _ _ c.if-b-eq48.true)

pub returns : goal.returns
unfolding Json.leading when◌then◌else◌
returns c =
    rw (ne_eqb _ _ c.if-b-eq48.false) c.on_digit.ensures
