-- `closing_mark`: by the opening. Assumes nothing.
use Rattle.format.specs.Marks.{closes}
use Rattle.format.proofs.marks.closing_mark.Goals as goal

pub returns-then-brace : goal.returns-then-brace
unfolding closes
returns-then-brace c =
    rw c.if-brace.true

pub returns : goal.returns
unfolding closes
returns c =
    rw c.if-brace.false
