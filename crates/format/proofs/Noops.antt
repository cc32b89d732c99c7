-- Skipping `N`, a byte at a time: what a loop over the message goes by. Assumes nothing.
use Prim.Native.Nat.{ℕ, ◌+◌, ◌≤◌, ◌<◌}
use mathlib.Core.Path.{◌≡◌}
use mathlib.Core.List.{List}
use native.Mathlib.Omega.{arith}
use native.Mathlib.Numerals.{add-one}
use lib.ListN.{length, get_or, drop_of_length-le}
use lib.Seq.{drop-cons}
use borrow.Author.Tests.{eq-eqb, ne_eqb}
use Rattle.format.specs.Conditions.{when◌then◌else◌}
use Rattle.format.specs.Marks.{'N'}
use Rattle.format.specs.Bytes.{leading_noops, skip}

module _ (m : List ℕ) (at : ℕ) where
  pub skip_noop : at < length m → get_or m at 0 ≡ 'N' → skip m at ≡ skip m (at + 1)
  unfolding skip leading_noops when◌then◌else◌
  skip_noop h e = rw (drop-cons m at 0, eq-eqb _ _ e, add-one at) (omega arith)

  pub skip_here : at < length m → (get_or m at 0 ≡ 'N' → ⊥) → skip m at ≡ at
  unfolding skip leading_noops when◌then◌else◌
  skip_here h e = rw (drop-cons m at 0, ne_eqb _ _ e) (omega arith)

  pub skip_end : length m ≤ at → skip m at ≡ at
  unfolding skip leading_noops
  skip_end h = rw (drop_of_length-le m h) (omega arith)
