-- `fields_at`: a walk over each field, and what is found in it. Assumes nothing.
use Prim.Native.Nat.{ℕ, ◌-◌, ◌≤◌}
use mathlib.Core.Path.{◌≡◌}
use lib.ListN.{length}
use Rattle.format.specs.Outcome.{done}
use Rattle.format.specs.Limits.{record_limit}
use Rattle.format.specs.Marks.{brace}
use Rattle.format.specs.Tokens.{Forest, below_first}
use Rattle.format.specs.Records.{total_width}
use Rattle.format.specs.Schemas.{table_schema}
use Rattle.leaf_search.specs.Search.{in_fields}
use Rattle.leaf_search.specs.Walks.{Begins}
use Rattle.leaf_search.specs.declared.leaves.Seen.TheVariants.{Left}
use Rattle.leaf_search.proofs.Turns.{Rest}
use Rattle.records.proofs.FieldTurns.{Leads}
use Rattle.records.proofs.fields.fields_at.Given as goal

abbrev pub invariant-loop-i : goal.invariant-loop-i
invariant-loop-i l = Begins l.wide l.seen × (l.field ≤ record_limit) × (l.span ≤ record_limit) × ((lent row next : ℕ) (s : Forest) → table_schema l.message lent l.schema row ≡ done (s, next) → total_width s ≤ record_limit
    → Rest l.message lent 7 brace l.i (Leads l.wide l.seen l.field l.span (total_width s) (in_fields (below_first s) 0 (Left l.leaf) 0 0)) next)

abbrev pub decreases-loop-i : goal.decreases-loop-i
decreases-loop-i l = length l.message - l.i
