-- `after_letter`: a sign, or a digit. Assumes nothing.
use borrow.Author.Tests.{eq-eqb, ne_eqb}
use Rattle.format.specs.Conditions.{when◌then◌else◌}
use Rattle.format.specs.JsonNumber as Json
use Rattle.content.proofs.json.after_letter.Goals as goal

pub returns-then-b-eq43 : goal.returns-then-b-eq43
unfolding Json.step when◌then◌else◌
returns-then-b-eq43 c =
    rw (eq-eqb _ _ c.if-b-eq43.true)

pub returns-then-b-eq45 : goal.returns-then-b-eq45
unfolding Json.step when◌then◌else◌
returns-then-b-eq45 c =
    rw (ne_eqb _ _ c.if-b-eq43.false, eq-eqb _ _ c.if-b-eq45.true)

pub returns : goal.returns
unfolding Json.step when◌then◌else◌
returns c =
    rw (ne_eqb _ _ c.if-b-eq43.false, ne_eqb _ _ c.if-b-eq45.false) c.on_digit.ensures
