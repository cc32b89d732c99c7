-- `clear`: a loop over the places. Assumes nothing.
use Rattle.rows.proofs.Cleared.{Cleared}
use Rattle.rows.proofs.clear.Given as goal

abbrev pub invariant-loop-place : goal.invariant-loop-place
invariant-loop-place g l = Cleared g.T.Zero.ZERO l.initial.lent l.place-index l.lent
