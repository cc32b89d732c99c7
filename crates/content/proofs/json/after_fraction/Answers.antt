-- `after_fraction`: an e or an E. Assumes nothing.
use borrow.Author.Tests.{eq-eqb, ne_eqb}
use Rattle.format.specs.Conditions.{when◌then◌else◌}
use Rattle.format.specs.JsonNumber as Json
use Rattle.content.proofs.json.after_fraction.Goals as goal

pub returns-then-b-eq101 : goal.returns-then-b-eq101
unfolding Json.after_fraction when◌then◌else◌
returns-then-b-eq101 c =
    rw (eq-eqb _ _ c.if-b-eq101.true)

pub returns-then-b-eq69 : goal.returns-then-b-eq69
unfolding Json.after_fraction when◌then◌else◌
returns-then-b-eq69 c =
    rw (ne_eqb _ _ c.if-b-eq101.false, eq-eqb _ _ c.if-b-eq69.true)

pub returns : goal.returns
unfolding Json.after_fraction when◌then◌else◌
returns c =
    rw (ne_eqb _ _ c.if-b-eq101.false, ne_eqb _ _ c.if-b-eq69.false)
