-- `alone`: a loop over tokens of one sort. Assumes nothing.
use Prim.Native.Nat.{◌+◌}
use Rattle.format.specs.Marks.{bracket}
use Rattle.rows.specs.Row.{ancestry_of}
use Rattle.runs.proofs.MemberLaws.{Running}
use Rattle.runs.proofs.members.alone.Given as goal

abbrev pub invariant-loop-count : goal.invariant-loop-count
invariant-loop-count g l = Running l.message l.lent bracket l.most l.start l.first (ancestry_of l.ancestry) l.initial.rows l.at (l.first + l.count) l.count l.rows
