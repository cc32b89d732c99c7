-- `find`: a walk over members with a walk over bytes inside. What the definition gives from the key reached on is what it gives from
-- the first; and the bytes passed are equal. Assumes nothing.
use Prim.Native.Nat.{◌-◌, ◌≤◌}
use mathlib.Core.Path.{◌≡◌}
use Rattle.std.specs.Prelude.{Err}
use Rattle.format.specs.declared.refusals.Refusal.TheVariants.{NotThere}
use Rattle.lookup.proofs.Names.{EqualUpTo}
use Rattle.lookup.proofs.Walk.{Walk}
use Rattle.lookup.proofs.find.Given as goal

abbrev pub invariant-bytes : goal.invariant-bytes
invariant-bytes l = (l.answer ≡ Err NotThere) × (l.i ≤ l.wide) × EqualUpTo l.message l.name l.first l.i

abbrev pub decreases-bytes : goal.decreases-bytes
decreases-bytes l = l.wide - l.i

abbrev pub invariant-members : goal.invariant-members
invariant-members l = (l.answer ≡ Err NotThere) × Walk l.message l.rows l.name l.stop l.from l.key

abbrev pub decreases-members : goal.decreases-members
decreases-members l = l.stop - l.key
