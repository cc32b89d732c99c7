-- `opening_mark`: by the opening. Assumes nothing.
use Rattle.format.specs.Marks.{opens}
use Rattle.format.proofs.marks.opening_mark.Goals as goal

pub returns-then-brace : goal.returns-then-brace
unfolding opens
returns-then-brace c =
    rw c.if-brace.true

pub returns : goal.returns
unfolding opens
returns c =
    rw c.if-brace.false
