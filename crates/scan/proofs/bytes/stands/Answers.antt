-- `stands`: a byte there, and this one. Assumes nothing.
use borrow.Author.Tests.{lt-ltb, le-ltb}
use Rattle.scan.specs.Stands.{stands}
use Rattle.scan.proofs.bytes.stands.Goals as goal

pub returns-then-message-at : goal.returns-then-message-at
unfolding stands
returns-then-message-at c =
    rw (le-ltb _ _ c.if-message-at.true)

pub returns : goal.returns
unfolding stands
returns c =
    rw (lt-ltb _ _ c.if-message-at.false)
