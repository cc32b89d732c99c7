-- `in_range`: each index before the one reached is below its extent. Assumes nothing.
use mathlib.Core.Path.{◌≡◌}
use lib.ListN.{length, drop}
use Rattle.format.specs.Indexes.{in_range}
use Rattle.indexes.proofs.in_range.Given as goal

abbrev pub invariant-loop-extent : goal.invariant-loop-extent
invariant-loop-extent l = in_range l.extents l.indexes ≡ in_range (drop (length l.yielded) l.extents) (drop (length l.yielded) l.indexes)
