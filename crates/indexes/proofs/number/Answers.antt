-- `number`: by the order. Assumes nothing.
use borrow.Author.Tests.{eq-eqb, ne_eqb}
use Rattle.format.specs.Conditions.{when◌then◌else◌}
use Rattle.format.specs.Indexes.{number_in}
use Rattle.indexes.proofs.number.Goals as goal

pub returns-then-order-eq2 : goal.returns-then-order-eq2
unfolding number_in when◌then◌else◌
returns-then-order-eq2 c =
    rw (eq-eqb _ _ c.if-order-eq2.true) c.first_fastest.ensures

pub returns : goal.returns
unfolding number_in when◌then◌else◌
returns c =
    rw (ne_eqb _ _ c.if-order-eq2.false) c.last_fastest.ensures
