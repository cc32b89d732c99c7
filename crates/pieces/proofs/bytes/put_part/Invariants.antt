-- `put_part`: a byte at a time, if there is room for all. Assumes nothing.
use mathlib.Core.Path.{◌≡◌}
use lib.ListN.{length, take}
use lib.Seq.{sets}
use Rattle.pieces.proofs.bytes.put_part.Given as goal

abbrev pub invariant-loop-i : goal.invariant-loop-i
invariant-loop-i l = (l.output ≡ sets l.initial.output l.at (take l.i l.part)) × (length l.output ≡ length l.initial.output)
