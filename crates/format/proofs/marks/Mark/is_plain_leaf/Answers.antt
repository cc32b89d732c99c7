-- `Mark::is_plain_leaf`: `T`, `Z`, or one of the thirteen. Assumes nothing.
use borrow.Author.Tests.{eq-eqb, ne_eqb}
use Rattle.format.specs.Conditions.{among}
use Rattle.format.specs.Marks.{is_plain_leaf, is_type}
use Rattle.format.proofs.marks.Mark.is_plain_leaf.Goals as goal

pub returns-then-m-eq-TRUE : goal.returns-then-m-eq-TRUE
unfolding is_plain_leaf is_type among
returns-then-m-eq-TRUE c =
    rw (eq-eqb _ _ c.if-m-eq-TRUE.true)

pub returns-then-m-eq-NULL : goal.returns-then-m-eq-NULL
unfolding is_plain_leaf is_type among
returns-then-m-eq-NULL c =
    rw (eq-eqb _ _ c.if-m-eq-NULL.true, ne_eqb _ _ c.if-m-eq-TRUE.false)

pub returns : goal.returns
unfolding is_plain_leaf is_type among
returns c =
    rw (ne_eqb _ _ c.if-m-eq-TRUE.false, ne_eqb _ _ c.if-m-eq-NULL.false) c.is_type.ensures
