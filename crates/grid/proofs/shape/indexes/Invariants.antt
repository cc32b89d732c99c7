-- `shape::indexes`: the indexes stay nine. Assumes nothing.
use Rattle.std.proofs.Common.{◌≡◌, length}
use Rattle.grid.proofs.shape.indexes.Given as goal

abbrev pub invariant-loop-i : goal.invariant-loop-i
invariant-loop-i l = 9 ≡ length l.out
