-- `skip`: what is skipped from the place reached is what is skipped from the start. Assumes nothing.
use mathlib.Core.Path.{◌≡◌}
use Rattle.format.specs.Bytes as Bytes
use Rattle.scan.proofs.noops.skip.Given as goal

abbrev pub invariant-loop-i : goal.invariant-loop-i
invariant-loop-i l = Bytes.skip l.message l.i ≡ Bytes.skip l.message l.at
