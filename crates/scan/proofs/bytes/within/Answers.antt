-- `within`: a difference stands for the sum, which could wrap. Assumes nothing.
use Prim.Native.Nat.{ℕ, ◌+◌, ◌-◌, ◌≤◌, ◌<◌}
use mathlib.Core.Path.{◌≡◌, sym}
use mathlib.Core.Bool.{false}
use native.Mathlib.Omega.{arith}
use lib.Dec.{leb}
use borrow.Author.Tests.{lt-leb}
use Rattle.format.specs.Bytes as Bytes
use Rattle.scan.proofs.Digits.{leb_same}
use Rattle.scan.proofs.bytes.within.Goals as goal

module _ (end start n : ℕ) where
  past : end < start → false ≡ Bytes.within end start n
  unfolding Bytes.within
  past h = sym (lt-leb (start + n) end (omega arith))

  left : start ≤ end → leb n (end - start) ≡ Bytes.within end start n
  unfolding Bytes.within
  left h = leb_same n (end - start) (start + n) end (λ k. omega arith, λ k. omega arith)

pub returns-then-message-start : goal.returns-then-message-start
returns-then-message-start c =
    past _ _ _ c.if-message-start.true

pub returns : goal.returns
returns c =
    left _ _ _ c.if-message-start.false
