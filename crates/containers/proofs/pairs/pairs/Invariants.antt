-- `pairs`: a loop over the pairs. Assumes nothing.
use mathlib.Core.Path.{◌≡◌}
use lib.ListN.{length}
use Rattle.rows.specs.Row.{ancestry_of}
use Rattle.containers.specs.Lists.{pair_of}
use Rattle.containers.proofs.Loops.{Going, Some}
use Rattle.containers.proofs.pairs.pairs.Given as goal

abbrev pub invariant-loop-count : goal.invariant-loop-count
invariant-loop-count l = Going l.message l.lent l.start l.end.at l.end.row l.count
    × (length l.rows ≡ length l.initial.rows)
    × Some l.n (pair_of l.message l.lent l.mark) l.start l.first (ancestry_of l.ancestry) l.initial.rows l.end.at l.end.row l.count l.rows
