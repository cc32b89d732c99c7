-- `put_head`: by the kind. Assumes nothing.
use borrow.Author.Tests.{ne_eqb}
use Rattle.format.specs.Conditions.{when◌then◌else◌}
use Rattle.writer.specs.Pieces.{head}
use Rattle.pieces.proofs.Putting.{puts_append}
use Rattle.writer.proofs.by_row.put_head.Goals as goal

pub returns-then-is_list : goal.returns-then-is_list
unfolding head when◌then◌else◌
returns-then-is_list c =
    rw (← c.is_list.ensures, c.if-is_list.true, ← c.of-letter.ensures) c.put_counted.ensures

pub returns-then-r-number : goal.returns-then-r-number
unfolding head when◌then◌else◌
returns-then-r-number c =
    rw (← c.is_list.ensures, c.if-is_list.false, (rw c.number.ensures at c.if-r-number.true), ← c.of-letter.ensures) c.put_packed.ensures

pub returns-then-r-number-2 : goal.returns-then-r-number-2
unfolding head when◌then◌else◌
returns-then-r-number-2 c =
    rw (← c.is_list.ensures, c.if-is_list.false, ne_eqb _ _ (rw c.number.ensures at c.if-r-number.false), (rw c.number-2.ensures at c.if-r-number-2.true), ← c.of-letter.ensures) (puts_append _ _ c.put-next.ensures c.put.ensures)

pub returns : goal.returns
unfolding head when◌then◌else◌
returns c =
    rw (← c.is_list.ensures, c.if-is_list.false, ne_eqb _ _ (rw c.number.ensures at c.if-r-number.false), ne_eqb _ _ (rw c.number-2.ensures at c.if-r-number-2.false), ← c.of-letter.ensures) c.put-next.ensures
