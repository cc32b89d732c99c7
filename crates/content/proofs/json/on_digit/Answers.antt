-- `on_digit`: by `is_digit`. Assumes nothing.
use Rattle.format.specs.Conditions.{when◌then◌else◌}
use Rattle.content.proofs.json.on_digit.Goals as goal

pub returns-then-is_digit : goal.returns-then-is_digit
unfolding when◌then◌else◌
returns-then-is_digit c =
    rw (← c.is_digit.ensures, c.if-is_digit.true)

pub returns : goal.returns
unfolding when◌then◌else◌
returns c =
    rw (← c.is_digit.ensures, c.if-is_digit.false)
