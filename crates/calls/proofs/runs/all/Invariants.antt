-- `runs::all`: a loop over the lines. Assumes nothing.
use Rattle.std.proofs.Common.{length}
use Rattle.calls.proofs.runs.all.Given as goal

abbrev pub decreases-loop-text : goal.decreases-loop-text
decreases-loop-text g l = length l.text.rest.now
