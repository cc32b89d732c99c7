-- `packed_contents`: chars one by one, and anything else as it is. Assumes nothing.
use Prim.Native.Nat.{ℕ, ◌+◌, ◌-◌, ◌≤◌}
use mathlib.Core.Path.{◌≡◌}
use lib.ListN.{length}
use Rattle.format.specs.Marks.{'C'}
use Rattle.contents.proofs.Elements.{from}
use Rattle.contents.proofs.packed.packed_contents.Given as goal

abbrev pub invariant-loop-i : goal.invariant-loop-i
invariant-loop-i l = (l.i ≤ l.n) × (l.start + l.n ≤ length l.message) × ((row : ℕ) → from l.message l.start row 'C' 0 l.n 0 ≡ from l.message l.start row 'C' l.i (l.n - l.i) l.i)
