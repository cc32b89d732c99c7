-- The cycle of `container`, `member`, `counted` and `plain`: each call has a level less, or is nearer to where a level is taken. Assumes nothing.
use Prim.Native.Nat.{◌+◌, ◌*◌, ◌-◌}
use lib.ListN.{length}
use Rattle.format.specs.Grammars.{new}
use Rattle.format.specs.Marks.{opening_of, closes}
use Rattle.format.specs.Bytes.{skip}
use Rattle.format.specs.Sequences.{spaced}
use Rattle.items.specs.Headers.{member_of}
use Rattle.containers.proofs.Loops.{Going}
use Rattle.seek.proofs.Loops.{Some, Until}
use Rattle.seek.proofs.nest.+container_counted_member_plain.Given as goal

abbrev pub decreases-container : goal.decreases-container
decreases-container l = 3 * l.levels

abbrev pub decreases-counted : goal.decreases-counted
decreases-counted l = 3 * l.levels + 2

abbrev pub decreases-member : goal.decreases-member
decreases-member l = 3 * l.levels + 1

abbrev pub decreases-plain : goal.decreases-plain
decreases-plain l = 3 * l.levels + 2

abbrev pub invariant-counted-loop-count : goal.invariant-counted-loop-count
invariant-counted-loop-count l = Going l.message (length l.message) l.start l.past.at l.past.row 0 × Some l.message l.n (spaced l.message (member_of l.message (length l.message) new l.levels (opening_of l.brace))) l.start l.first l.number l.past.at l.past.row l.past.left l.count

abbrev pub invariant-plain-loop-past : goal.invariant-plain-loop-past
invariant-plain-loop-past l = Going l.message (length l.message) l.start l.past.at l.past.row 0 × Until l.message (skip l.message) (closes (opening_of l.brace)) (member_of l.message (length l.message) new l.levels (opening_of l.brace)) l.start l.first l.number l.past.at l.past.row l.past.left

abbrev pub decreases-plain-loop-past : goal.decreases-plain-loop-past
decreases-plain-loop-past l = length l.message - l.past.at
