-- `last_fastest`: the number of the indexes before the one reached. Assumes nothing.
use lib.ListN.{length}
use Rattle.indexes.proofs.Numbers.{Counted}
use Rattle.indexes.proofs.last_fastest.Given as goal

abbrev pub invariant-loop-extent : goal.invariant-loop-extent
invariant-loop-extent l = Counted l.extents l.indexes (length l.yielded) l.number
