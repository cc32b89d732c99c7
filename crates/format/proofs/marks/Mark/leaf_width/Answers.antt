-- `Mark::leaf_width`: by whether the mark is `T`. Assumes nothing.
use borrow.Author.Tests.{eq-eqb, ne_eqb}
use Rattle.format.specs.Conditions.{when◌then◌else◌}
use Rattle.format.specs.Marks.{leaf_width}
use Rattle.format.proofs.marks.Mark.leaf_width.Goals as goal

pub returns-then-m-eq-TRUE : goal.returns-then-m-eq-TRUE
unfolding leaf_width when◌then◌else◌
returns-then-m-eq-TRUE c =
    rw (eq-eqb _ _ c.if-m-eq-TRUE.true)

pub returns : goal.returns
unfolding leaf_width when◌then◌else◌
returns c =
    rw (ne_eqb _ _ c.if-m-eq-TRUE.false) c.width.ensures
