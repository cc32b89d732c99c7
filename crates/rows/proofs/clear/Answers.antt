-- `clear`: a loop over the places. Assumes nothing.
use Rattle.rows.proofs.Cleared.{one_more}
use Rattle.rows.proofs.clear.Goals as goal

pub loop-place-preserved : goal.loop-place-preserved
loop-place-preserved g c =
    rw c.ZERO.ensures (one_more g.T.Zero.ZERO _ _ _ c.loop-place.invariant c.loop-place-test.true)
