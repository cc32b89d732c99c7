-- `are_chars_singly`: each byte before the one reached is a char. Assumes nothing.
use mathlib.Core.Path.{◌≡◌}
use lib.ListN.{drop}
use lib.Dec.{leb}
use Rattle.format.specs.Conditions.{all}
use Rattle.ends.proofs.texts.are_chars_singly.Given as goal

abbrev pub invariant-loop-b : goal.invariant-loop-b
invariant-loop-b l = all (λ b. leb b 127) l.bytes ≡ all (λ b. leb b 127) (drop l.b-index l.bytes)
