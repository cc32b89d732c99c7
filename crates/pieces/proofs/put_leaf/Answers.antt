-- `put_leaf`: by whether the mark is `S`. Assumes nothing.
use borrow.Author.Tests.{eq-eqb, ne_eqb}
use Rattle.format.specs.Conditions.{when◌then◌else◌}
use Rattle.pieces.proofs.Putting.{puts_append}
use Rattle.pieces.proofs.put_leaf.Goals as goal

pub returns-then-mark-ne-TEXT : goal.returns-then-mark-ne-TEXT
unfolding when◌then◌else◌
returns-then-mark-ne-TEXT c =
    rw (ne_eqb _ _ c.if-mark-ne-TEXT.true) c.put-next.ensures

pub returns : goal.returns
unfolding when◌then◌else◌
returns c =
    rw (eq-eqb _ _ c.if-mark-ne-TEXT.false) (puts_append _ _ c.put-next.ensures c.put_integer.ensures)
