-- `rows_from`: each dimension is stored after those gathered. Assumes nothing.
use Prim.Native.Nat.{◌-◌, ◌≤◌}
use mathlib.Core.Path.{◌≡◌}
use lib.ListN.{length, take}
use Rattle.format.specs.Limits.{dimension_limit}
use Rattle.ways.proofs.Extents.{Sofar}
use Rattle.ways.proofs.dimensions.rows_from.Given as goal

abbrev pub invariant-loop-row : goal.invariant-loop-row
invariant-loop-row l = Sofar l.rows l.container l.stop l.from l.row (take l.many l.into) × (l.many ≤ dimension_limit) × (length l.into ≡ dimension_limit)

abbrev pub decreases-loop-row : goal.decreases-loop-row
decreases-loop-row l = l.stop - l.row
