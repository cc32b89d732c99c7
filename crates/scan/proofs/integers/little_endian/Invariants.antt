-- `little_endian`: from the highest byte down; what is read is the number of the bytes from the one reached on. Assumes nothing.
use Prim.Native.Nat.{◌+◌, ◌-◌}
use mathlib.Core.Path.{◌≡◌}
use Rattle.format.specs.Bytes.{little, bytes}
use Rattle.scan.proofs.integers.little_endian.Given as goal

abbrev pub invariant-loop-k : goal.invariant-loop-k
invariant-loop-k l = l.n ≡ little (bytes l.message (l.at + (l.width - l.k)) l.k)
