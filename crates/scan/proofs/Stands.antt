-- What it says that a byte stands at a place, or doesn't. Assumes nothing.
use Prim.Native.Nat.{ℕ, ◌<◌}
use mathlib.Core.Path.{◌≡◌, sym}
use mathlib.Core.Bool.{true, false, false≢true, and-eq-true_iff}
use mathlib.Core.List.{List}
use lib.ListN.{length, get_or}
use borrow.Author.Tests.{ltb-true, lt-ltb, eqb-true, eq-eqb}
use Rattle.scan.specs.Stands.{stands}

module _ (m : List ℕ) (at mark : ℕ) where
  pub stands_there : stands m at mark ≡ true → (at < length m) × (get_or m at 0 ≡ mark)
  unfolding stands
  stands_there h = let x = (and-eq-true_iff _ _).0 h in (ltb-true _ _ x.0, eqb-true _ _ x.1)

  pub stands_other : stands m at mark ≡ false → at < length m → get_or m at 0 ≡ mark → ⊥
  unfolding stands
  stands_other h k e = false≢true (sym (rw (lt-ltb _ _ k, eq-eqb _ _ e) at h))
