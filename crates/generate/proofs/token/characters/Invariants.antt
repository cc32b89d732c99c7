-- `token::characters`: a loop over characters, each of a byte at least. Assumes nothing.
use Rattle.generate.proofs.token.characters.Given as goal

abbrev pub decreases-loop-left : goal.decreases-loop-left
decreases-loop-left l = l.left
