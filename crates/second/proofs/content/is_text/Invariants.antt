-- `content::is_text`: a loop over characters, each of a byte at least. Assumes nothing.
use Rattle.std.proofs.Common.{length}
use Rattle.second.proofs.content.is_text.Given as goal

abbrev pub decreases-loop-lead : goal.decreases-loop-lead
decreases-loop-lead l = length l.left
