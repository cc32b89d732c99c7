-- The walk over a schema: a kind, and the members of a schema or a fixed array. Assumes nothing.
use Prim.Native.Nat.{ℕ, ◌+◌, ◌-◌, ◌*◌, ◌≤◌, min}
use mathlib.Core.Path.{◌≡◌}
use lib.ListN.{length}
use Rattle.format.specs.Outcome.{done}
use Rattle.format.specs.Marks.{opening_of}
use Rattle.format.specs.Tokens.{Forest}
use Rattle.format.specs.Records.{total_width}
use Rattle.format.specs.Schemas.{nested}
use Rattle.columns.specs.Least.{farthest, in_columns, Fits}
use Rattle.contents.proofs.Groups.{RestOf}
use Rattle.contents.proofs.walk.+group_kind.Given as goal

abbrev pub decreases-group : goal.decreases-group
decreases-group l = 2 * l.levels

abbrev pub decreases-kind : goal.decreases-kind
decreases-kind l = 2 * l.levels + 1

abbrev pub invariant-group-loop-i : goal.invariant-group-loop-i
invariant-group-loop-i l = (l.here ≤ farthest) × (l.low ≤ l.best) × ((lent row next : ℕ) (f : Forest) → row ≤ lent → nested l.message lent l.levels (opening_of l.brace) l.at row ≡ done (f, next) → Fits l.message l.stride l.count (l.place + total_width f)
    → RestOf l.message lent (l.levels - 1) (opening_of l.brace) total_width (in_columns l.message l.stride l.count) (total_width f) l.i l.here l.low next (l.place + total_width f) (min l.best (in_columns l.message l.stride l.count f l.place)))

abbrev pub decreases-group-loop-i : goal.decreases-group-loop-i
decreases-group-loop-i l = length l.message - l.i
