-- `marked`: the mark of an integer, and the dimension under it. Assumes nothing.
use borrow.Author.Tests.{lt-ltb, le-ltb}
use Rattle.format.specs.Outcome.{◌>>=◌, ◌>>◌, guard}
use Rattle.format.specs.Bytes.{byte, one_of}
use Rattle.format.specs.Dimensions.{marked}
use Rattle.dimensions.proofs.forms.marked.Goals as goal

pub returns-then-end-at-clause-meets : goal.returns-then-end-at-clause-meets
unfolding marked one_of byte guard ◌>>◌ ◌>>=◌
returns-then-end-at-clause-meets c = rw (le-ltb _ _ c.if-end-at.true)

pub returns-then-not-is_integer-clause-meets : goal.returns-then-not-is_integer-clause-meets
unfolding marked one_of byte guard ◌>>◌ ◌>>=◌
returns-then-not-is_integer-clause-meets c =
    rw (lt-ltb _ _ c.if-end-at.false, ← c.is_integer.ensures, c.if-not-is_integer.true)

pub returns-clause-meets : goal.returns-clause-meets
unfolding marked one_of byte guard ◌>>◌ ◌>>=◌
returns-clause-meets c =
    rw (lt-ltb _ _ c.if-end-at.false, ← c.is_integer.ensures, c.if-not-is_integer.false) c.dimension.ensures.meets
