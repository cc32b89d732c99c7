-- `put_shape_start`: by the order. Assumes nothing.
use borrow.Author.Tests.{ne_eqb}
use Rattle.format.specs.Conditions.{when◌then◌else◌}
use Rattle.pieces.specs.Shapes.{shape_start}
use Rattle.pieces.proofs.Putting.{puts_append}
use Rattle.pieces.proofs.put_shape_start.Goals as goal

pub returns-then-order-eq0 : goal.returns-then-order-eq0
unfolding shape_start when◌then◌else◌
returns-then-order-eq0 c =
    rw c.if-order-eq0.true c.put_integer.ensures

pub returns-then-order-eq1 : goal.returns-then-order-eq1
unfolding shape_start when◌then◌else◌
returns-then-order-eq1 c =
    rw (ne_eqb _ _ c.if-order-eq0.false, c.if-order-eq1.true) c.put-next.ensures

pub returns : goal.returns
unfolding shape_start when◌then◌else◌
returns c =
    rw (ne_eqb _ _ c.if-order-eq0.false, ne_eqb _ _ c.if-order-eq1.false) (puts_append _ _ c.put-next.ensures c.put.ensures)
