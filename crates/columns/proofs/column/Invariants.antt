-- `column`: the values before the one reached are right. Assumes nothing.
use Prim.Native.Nat.{ℕ, ◌+◌, ◌-◌, ◌*◌, ◌≤◌}
use mathlib.Core.Path.{◌≡◌}
use mathlib.Core.List.{List}
use lib.ListN.{length}
use Rattle.columns.specs.Least.{in_column, Fits}
use Rattle.columns.proofs.column.Given as goal

-- what is left lies inside the message, and is as wrong as the whole
pub record Left (m : List ℕ) (mark wide stride count place here left : ℕ) : Type 0 where
  pub inside : here + wide + left * stride ≤ length m + stride
  pub same : in_column m mark wide stride left here ≡ in_column m mark wide stride count place

abbrev pub invariant-loop-passed : goal.invariant-loop-passed
invariant-loop-passed l = Fits l.message l.stride l.count (l.place + l.wide) → Left l.message l.mark l.wide l.stride l.count l.place l.here (l.count - l.passed)
