-- `Mark::is_leaf`: a leaf that is its mark alone, or `S`. Assumes nothing.
use mathlib.Core.Path.{refl}
use Rattle.format.specs.Marks.{is_leaf}
use Rattle.format.proofs.marks.Mark.is_leaf.Goals as goal

pub returns-then-is_plain_leaf : goal.returns-then-is_plain_leaf
unfolding is_leaf
returns-then-is_plain_leaf c =
    rw (← c.is_plain_leaf.ensures, c.if-is_plain_leaf.true) refl

pub returns : goal.returns
unfolding is_leaf
returns c =
    rw (← c.is_plain_leaf.ensures, c.if-is_plain_leaf.false) refl
