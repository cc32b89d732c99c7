-- `fits`: the room, and the limit. Assumes nothing.
use borrow.Author.Tests.{le-leb, lt-leb}
use Rattle.forests.specs.Settled.{fits_in}
use Rattle.forests.proofs.settled.fits.Goals as goal

pub returns-then-room-n : goal.returns-then-room-n
unfolding fits_in
returns-then-room-n c =
    rw (lt-leb _ _ c.if-room-n.true)

pub returns : goal.returns
unfolding fits_in
returns c =
    rw (le-leb _ _ c.if-room-n.false)
