-- `after_whole`: the point, or what `after_fraction` says. Assumes nothing.
use borrow.Author.Tests.{eq-eqb, ne_eqb}
use Rattle.format.specs.Conditions.{when◌then◌else◌}
use Rattle.format.specs.JsonNumber as Json
use Rattle.content.proofs.json.after_whole.Goals as goal

pub returns-then-b-eq46 : goal.returns-then-b-eq46
unfolding Json.after_whole when◌then◌else◌
returns-then-b-eq46 c =
    rw (eq-eqb _ _ c.if-b-eq46.true)

pub returns : goal.returns
unfolding Json.after_whole when◌then◌else◌
returns c =
    rw (ne_eqb _ _ c.if-b-eq46.false) c.after_fraction.ensures
