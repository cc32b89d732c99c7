-- `bare`: a byte must stand there, then the dimension. Assumes nothing.
use borrow.Author.Tests.{lt-ltb, le-ltb}
use Rattle.format.specs.Outcome.{◌>>=◌, ◌>>◌, guard}
use Rattle.format.specs.Bytes.{byte}
use Rattle.format.specs.Dimensions.{bare}
use Rattle.dimensions.proofs.forms.bare.Goals as goal

pub returns-then-end-at-clause-meets : goal.returns-then-end-at-clause-meets
unfolding bare byte guard ◌>>◌ ◌>>=◌
returns-then-end-at-clause-meets c = rw (le-ltb _ _ c.if-end-at.true)

pub returns-clause-meets : goal.returns-clause-meets
unfolding bare byte guard ◌>>◌ ◌>>=◌
returns-clause-meets c = rw (lt-ltb _ _ c.if-end-at.false) c.dimension.ensures.meets
