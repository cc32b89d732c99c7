-- `Way::to`: no step goes past the room. Assumes nothing.
use Prim.Native.Nat.{◌≤◌}
use Rattle.navigate.proofs.way.Way.to.Given as goal

abbrev pub invariant-loop-r : goal.invariant-loop-r
invariant-loop-r l = l.way.depth ≤ 16
