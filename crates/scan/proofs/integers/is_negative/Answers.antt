-- `is_negative`: the highest bit of the highest byte. Assumes nothing.
use Prim.Native.Nat.{ℕ, ◌<◌}
use mathlib.Core.Path.{◌≡◌}
use mathlib.Core.Bool.{true}
use native.Mathlib.Omega.{arith}
use Rattle.format.specs.Marks.{is_signed, width}
use Rattle.format.proofs.MarkFacts.{integer_wide, signed_integer}
use Rattle.scan.proofs.Digits.{unsigned, signed}
use Rattle.scan.proofs.integers.is_negative.Goals as goal

-- a signed mark has bytes
wide : (mark w : ℕ) → w ≡ width mark → is_signed mark ≡ true → 0 < w
wide mark w e h = rw e (integer_wide mark (signed_integer mark h))

pub returns-then-not-is_signed : goal.returns-then-not-is_signed
returns-then-not-is_signed c =
    unsigned _ _ (rw (← c.is_signed.ensures) c.if-not-is_signed.true)

pub overflow_sub-top : goal.overflow_sub-top
overflow_sub-top c =
    let p = wide _ _ c.width-width.ensures (rw (← c.is_signed.ensures) c.if-not-is_signed.false) in omega arith

pub bounds-message-start : goal.bounds-message-start
bounds-message-start c =
    let p = wide _ _ c.width-width.ensures (rw (← c.is_signed.ensures) c.if-not-is_signed.false) in omega (arith, c.width-width.ensures, c.requires)

pub returns : goal.returns
returns c =
    rw c.width-width.ensures (signed _ _ _ (λ i. (c.shared_slice_known-2-1.given i).fits) (rw (← c.is_signed.ensures) c.if-not-is_signed.false) c.requires)
