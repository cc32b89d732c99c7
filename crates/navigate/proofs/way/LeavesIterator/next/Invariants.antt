-- `Leaves::next`: the loop leaves rows and bounds as they were, and has passed no leaf. Assumes nothing.
use Rattle.std.proofs.Common.{◌≡◌}
use Rattle.navigate.specs.Leaves.{HasNoLeaf}
use Rattle.navigate.proofs.way.LeavesIterator.next.Given as goal

abbrev pub invariant-loop-row : goal.invariant-loop-row
invariant-loop-row l =
    (l.self.rows ≡ l.initial.self.rows)
    × (l.self.next ≡ l.initial.self.next)
    × (l.self.end ≡ l.initial.self.end)
    × HasNoLeaf l.self.rows.now l.initial.self.next l.row
