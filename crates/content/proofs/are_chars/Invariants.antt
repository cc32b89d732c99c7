-- `are_chars`: each byte before the one reached is a char, if `chars` says so. Assumes nothing.
use mathlib.Core.Path.{◌≡◌}
use mathlib.Core.Bool.{◌&&◌}
use lib.ListN.{drop}
use lib.Dec.{leb}
use Rattle.format.specs.Conditions.{all}
use Rattle.content.proofs.are_chars.Given as goal

abbrev pub invariant-loop-b : goal.invariant-loop-b
invariant-loop-b l = all (λ b. leb b 127) l.bytes ≡ (l.chars && all (λ b. leb b 127) (drop l.b-index l.bytes))
