-- `repeated`: so many items, one after another. Assumes nothing.
use Prim.Native.Nat.{◌+◌, ◌-◌, ◌≤◌}
use mathlib.Core.Path.{◌≡◌}
use lib.ListN.{length}
use Rattle.format.specs.Limits.{limit}
use Rattle.format.specs.Sequences.{repeat}
use Rattle.tokens.specs.Answers.{Here}
use Rattle.dimensions.specs.Answers.{item_of}
use Rattle.rows.specs.Row.{ancestry_of}
use Rattle.dimensions.proofs.Going.{Going}
use Rattle.shapes.proofs.vectors.repeated.Given as goal

abbrev pub invariant-loop-count : goal.invariant-loop-count
invariant-loop-count l = Here l.message l.lent l.read.at l.read.row
    × (l.at ≤ l.read.at)
    × (l.read.many ≤ limit + 1)
    × (length l.rows ≡ length l.initial.rows)
    × Going (repeat l.n (item_of l.message l.lent l.form) l.at l.row) l.row (ancestry_of l.ancestry) l.initial.rows (repeat (l.n - l.count) (item_of l.message l.lent l.form) l.read.at l.read.row) l.read.row l.read.many l.rows
