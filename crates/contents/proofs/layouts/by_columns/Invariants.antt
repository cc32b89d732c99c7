-- `by_columns`: the fields that are passed are taken in. Assumes nothing.
use Prim.Native.Nat.{ℕ, ◌+◌, ◌-◌, ◌*◌, ◌≤◌}
use lib.ListN.{length}
use Rattle.format.specs.Marks.{brace}
use Rattle.format.specs.Tokens.{Forest, below_first}
use Rattle.format.specs.Records.{total_width}
use Rattle.columns.specs.Least.{farthest, nowhere, in_fields}
use Rattle.contents.specs.Tables.{TableAt}
use Rattle.contents.proofs.Groups.{RestOf}
use Rattle.contents.proofs.layouts.by_columns.Given as goal

abbrev pub invariant-loop-i : goal.invariant-loop-i
invariant-loop-i l = (l.place ≤ farthest) × (l.low ≤ nowhere) × ((wide lent row next : ℕ) (s : Forest) → TableAt l.message l.schema wide l.count l.start lent row next s
    → RestOf l.message lent 7 brace (λ f. l.count * total_width f) (in_fields l.message l.count) wide l.i l.place l.low next (l.start + l.count * wide) (in_fields l.message l.count (below_first s) l.start))

abbrev pub decreases-loop-i : goal.decreases-loop-i
decreases-loop-i l = length l.message - l.i
