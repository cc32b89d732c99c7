-- `are_booleans`: each byte before the one reached is a boolean. Assumes nothing.
use mathlib.Core.Path.{◌≡◌}
use lib.ListN.{drop}
use Rattle.format.specs.Conditions.{all}
use Rattle.format.specs.Marks.{is_boolean}
use Rattle.content.proofs.are_booleans.Given as goal

abbrev pub invariant-loop-b : goal.invariant-loop-b
invariant-loop-b l = all is_boolean l.bytes ≡ all is_boolean (drop l.b-index l.bytes)
