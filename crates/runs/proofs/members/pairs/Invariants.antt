-- `pairs`: a loop over them. Assumes nothing.
use Rattle.format.specs.Marks.{brace}
use Rattle.rows.specs.Row.{ancestry_of}
use Rattle.runs.proofs.MemberLaws.{Running}
use Rattle.runs.proofs.members.pairs.Given as goal

abbrev pub invariant-loop-count : goal.invariant-loop-count
invariant-loop-count l = Running l.message l.lent brace l.most l.start l.first (ancestry_of l.ancestry) l.initial.rows l.at l.row l.count l.rows
