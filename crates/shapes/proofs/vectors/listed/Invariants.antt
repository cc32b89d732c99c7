-- `listed`: an integer record, and then what may follow it. Assumes nothing.
use Prim.Native.Nat.{ℕ, ◌+◌, ◌-◌, ◌≤◌}
use mathlib.Core.Path.{◌≡◌}
use mathlib.Core.List.{List}
use lib.ListN.{length}
use Rattle.format.specs.Outcome.{Parsed}
use Rattle.format.specs.Tokens.{Forest}
use Rattle.format.specs.Limits.{limit, dimension_limit}
use Rattle.format.specs.Dimensions.{listed}
use Rattle.tokens.specs.Answers.{Here}
use Rattle.rows.specs.Row.{ancestry_of}
use Rattle.dimensions.proofs.Going.{Going}
use Rattle.shapes.proofs.vectors.listed.Given as goal

abbrev pub invariant-loop-count : goal.invariant-loop-count
invariant-loop-count l = Here l.message l.lent l.read.at l.read.row
    × (l.at ≤ l.read.at)
    × (l.read.many ≤ limit + 1)
    × (length l.rows ≡ length l.initial.rows)
    × ((whole : Parsed Forest) (first : ℕ) (before : List ℕ)
    → Going whole first (ancestry_of l.ancestry) before (listed l.message l.lent dimension_limit l.place l.initial.read.at l.initial.read.row) l.initial.read.row l.initial.read.many l.initial.rows
    → Going whole first (ancestry_of l.ancestry) before (listed l.message l.lent (dimension_limit - l.count) l.place l.read.at l.read.row) l.read.row l.read.many l.rows)
