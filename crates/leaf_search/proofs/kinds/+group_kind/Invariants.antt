-- The walk over a schema: a kind, and the members of a schema or a fixed array. Assumes nothing.
use Prim.Native.Nat.{ℕ, ◌+◌, ◌-◌, ◌*◌, ◌≤◌}
use mathlib.Core.Path.{◌≡◌}
use lib.ListN.{length}
use Rattle.format.specs.Outcome.{done}
use Rattle.format.specs.Limits.{record_limit}
use Rattle.format.specs.Marks.{opening_of}
use Rattle.format.specs.Tokens.{Forest}
use Rattle.format.specs.Records.{total_width}
use Rattle.format.specs.Schemas.{nested}
use Rattle.leaf_search.specs.Search.{past}
use Rattle.leaf_search.specs.Walks.{Begins}
use Rattle.leaf_search.proofs.Turns.{Rest, Leads}
use Rattle.leaf_search.proofs.kinds.+group_kind.Given as goal

abbrev pub decreases-group : goal.decreases-group
decreases-group l = 2 * l.levels

abbrev pub decreases-kind : goal.decreases-kind
decreases-kind l = 2 * l.levels + 1

abbrev pub invariant-group-loop-i : goal.invariant-group-loop-i
invariant-group-loop-i l = Begins l.here l.sought × (l.offset ≤ l.here) × ((lent row next : ℕ) (f : Forest) → row ≤ lent → nested l.message lent l.levels (opening_of l.brace) l.at row ≡ done (f, next) → l.offset + total_width f ≤ record_limit
    → Rest l.message lent (l.levels - 1) (opening_of l.brace) l.i (Leads l.here l.sought (l.offset + total_width f) (past f l.offset l.off.seen)) next)

abbrev pub decreases-group-loop-i : goal.decreases-group-loop-i
decreases-group-loop-i l = length l.message - l.i
