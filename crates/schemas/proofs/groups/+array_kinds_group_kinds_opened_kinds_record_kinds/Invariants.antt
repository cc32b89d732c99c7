-- The cycle of the kinds of records and fixed arrays: the levels left fall. Assumes nothing.
use Prim.Native.Nat.{◌+◌, ◌-◌, ◌*◌}
use mathlib.Core.Path.{◌≡◌}
use lib.ListN.{length}
use Rattle.format.specs.Marks.{opening_of}
use Rattle.laws.proofs.Schemas.{group_kind}
use Rattle.rows.specs.Row.{ancestry_of}
use Rattle.kinds.specs.Answers.{member_at}
use Rattle.schemas.proofs.Loop.{Before}
use Rattle.schemas.proofs.groups.+array_kinds_group_kinds_opened_kinds_record_kinds.Given as goal

abbrev pub decreases-group_kinds : goal.decreases-group_kinds
decreases-group_kinds l = 3 * l.levels

abbrev pub decreases-record_kinds : goal.decreases-record_kinds
decreases-record_kinds l = 3 * l.levels + 1

abbrev pub decreases-array_kinds : goal.decreases-array_kinds
decreases-array_kinds l = 3 * l.levels + 1

abbrev pub decreases-opened_kinds : goal.decreases-opened_kinds
decreases-opened_kinds l = 3 * l.levels + 2

abbrev pub invariant-group_kinds-loop-start : goal.invariant-group_kinds-loop-start
invariant-group_kinds-loop-start l =
    let o = opening_of l.brace in
    Before l.message l.lent (group_kind o) o (member_at l.message l.lent l.levels o) l.at l.row l.offset (ancestry_of l.children) l.initial.rows l.read.at l.read.row l.read.offset l.count l.rows
    × (length l.rows ≡ length l.initial.rows)

abbrev pub decreases-group_kinds-loop-start : goal.decreases-group_kinds-loop-start
decreases-group_kinds-loop-start l = length l.message - l.read.at
