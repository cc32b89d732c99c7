-- `quoted::characters`: a loop over what is left of the bytes. Assumes nothing.
use lib.ListN.{length}
use Rattle.show.proofs.quoted.characters.Given as goal

abbrev pub decreases-loop-left : goal.decreases-loop-left
decreases-loop-left l = length l.left
