-- `field`: one member after another. Assumes nothing.
use Prim.Native.Nat.{◌-◌, ◌≤◌, ◌<◌}
use Rattle.format.specs.Rows.{row_at, rows_in}
use Rattle.ways.proofs.Fields.{Going, TopIn}
use Rattle.ways.proofs.members.field.Given as goal

abbrev pub invariant-loop-here : goal.invariant-loop-here
invariant-loop-here l = Going l.rows l.leaf l.schema l.from l.container l.row l.top × (l.container < rows_in l.rows) × ((row_at l.rows l.container).link ≤ rows_in l.rows) × TopIn (rows_in l.rows) l.top

abbrev pub decreases-loop-here : goal.decreases-loop-here
decreases-loop-here l = rows_in l.rows - l.row
