-- The cycle of `container`, `member`, `following`, `counted`, `plain`, `rest`, `deep` and `held`: each call has a level less, or is nearer to where a level is taken. Assumes nothing.
use Prim.Native.Nat.{ℕ, ◌+◌, ◌*◌, ◌-◌, ◌≤◌}
use mathlib.Core.Path.{◌≡◌}
use lib.ListN.{length}
use Rattle.format.specs.Answers.{grammar_of}
use Rattle.format.specs.Marks.{opening_of, closes}
use Rattle.format.specs.Bytes.{skip}
use Rattle.format.specs.Sequences.{spaced}
use Rattle.rows.specs.Row.{ancestry_of}
use Rattle.items.specs.Headers.{member_of}
use Rattle.containers.proofs.Loops.{Going, Some, Until}
use Rattle.nesting.proofs.values.+container_counted_deep_following_held_member_plain_rest.Given as goal

abbrev pub decreases-container : goal.decreases-container
decreases-container l = 7 * l.levels

abbrev pub decreases-counted : goal.decreases-counted
decreases-counted l = 7 * l.levels + 3

abbrev pub decreases-deep : goal.decreases-deep
decreases-deep l = 7 * l.levels + 5

abbrev pub decreases-following : goal.decreases-following
decreases-following l = 7 * l.levels + 2

abbrev pub decreases-held : goal.decreases-held
decreases-held l = 7 * l.levels + 6

abbrev pub decreases-member : goal.decreases-member
decreases-member l = 7 * l.levels + 1

abbrev pub decreases-plain : goal.decreases-plain
decreases-plain l = 7 * l.levels + 3

abbrev pub decreases-rest : goal.decreases-rest
decreases-rest l = 7 * l.levels + 4

abbrev pub invariant-counted-loop-count : goal.invariant-counted-loop-count
invariant-counted-loop-count l = Going l.message l.lent l.start l.at l.row l.count
    × (length l.rows ≡ length l.initial.rows)
    × Some l.n (spaced l.message (member_of l.message l.lent (grammar_of l.edition) l.levels (opening_of l.brace))) l.start l.first (ancestry_of l.ancestry) l.initial.rows l.at l.row l.count l.rows

abbrev pub decreases-counted-loop-count : goal.decreases-counted-loop-count
decreases-counted-loop-count l = l.n - l.count

abbrev pub invariant-plain-loop-at : goal.invariant-plain-loop-at
invariant-plain-loop-at l = Going l.message l.lent l.start l.at l.row l.count
    × (length l.rows ≡ length l.initial.rows)
    × (l.start + l.count ≤ l.at)
    × ((fuel₀ : ℕ) → length l.message ≤ l.start + fuel₀ → Until l.message (skip l.message) (closes (opening_of l.brace)) (member_of l.message l.lent (grammar_of l.edition) l.levels (opening_of l.brace)) l.start l.first (ancestry_of l.ancestry) l.initial.rows fuel₀ l.at l.row l.count l.rows)

abbrev pub decreases-plain-loop-at : goal.decreases-plain-loop-at
decreases-plain-loop-at l = length l.message - l.at
