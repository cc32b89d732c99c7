-- `first_fastest`: the number of the indexes from the one reached on. Assumes nothing.
use mathlib.Core.Path.{◌≡◌}
use lib.ListN.{drop}
use Rattle.format.specs.Indexes.{first_number}
use Rattle.indexes.specs.Sums.{capped}
use Rattle.indexes.proofs.first_fastest.Given as goal

abbrev pub invariant-loop-k : goal.invariant-loop-k
invariant-loop-k l = l.number ≡ capped (first_number (drop l.k l.extents) (drop l.k l.indexes))
