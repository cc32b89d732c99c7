-- The walk over a whole message. Assumes nothing.
use Prim.Native.Nat.{ℕ, ◌≤◌}
use mathlib.Core.Path.{◌≡◌, refl}
use mathlib.Core.List.{List, [], append-nil}
use lib.ListN.{length}
use borrow.Author.Tests.{leb-true}
use Rattle.format.specs.Grammars.{new}
use Rattle.format.specs.Outcome.{Outcome, fault, done}
use Rattle.format.specs.Refusals.{not_there}
use Rattle.format.specs.Limits.{limit, value_levels}
use Rattle.format.specs.Marks.{bracket}
use Rattle.format.specs.Tokens.{Forest}
use Rattle.format.specs.Bytes.{skip}
use Rattle.format.specs.Containers.{items}
use Rattle.format.specs.Read.{read, read_whole}
use Rattle.format.specs.Panel.{tables, pick}
use Rattle.laws.proofs.Holds.{Holds, refused, holds, bind_law, then_law, guard_law, any_law, of_done}
use Rattle.items.specs.Headers.{member_of}
use Rattle.seek.specs.Walks.{Passed}
use Rattle.seek.proofs.Picking.{pick_past}

-- an accepted message is short enough, and its tokens are those of one value
pub record Value (m : List ℕ) (f : Forest) : Type 0 where
  pub short : length m ≤ limit
  pub next : ℕ
  pub value : member_of m (length m) new value_levels bracket (skip m 0) 0 ≡ done (f, next)

itself : {A : Type 0} (o : Outcome A) → Holds (Unit {0}) (λ a. o ≡ done a) o
itself (fault n p) = refused λ _. tt
itself (done a) = holds refl

pub accepted : (m : List ℕ) (f : Forest) → read_whole m new ≡ done f → Value m f
unfolding read_whole read member_of items
accepted m f e = of_done {P = Value m} f (then_law (guard_law _ _ _ refl) λ h. bind_law (itself _) λ r q. then_law (any_law _) λ _.
    holds (record { short = leb-true (length m) limit h; next = r.1; value = q })) e

-- all tables are passed: there are not so many
pub all_passed : (f : Forest) (number next next' row' left' : ℕ) → Passed 0 number f next next' row' left' → pick (tables 0 f) number ≡ fault not_there 0
unfolding pick
all_passed f number next next' row' left' p = rw p.fewer (rw (append-nil (tables 0 f)) at (pick_past (tables 0 f) [] left'))
