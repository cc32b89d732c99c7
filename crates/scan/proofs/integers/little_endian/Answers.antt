-- `little_endian`: from the highest byte down; what is read is the number of the bytes from the one reached on. Assumes nothing.
use Prim.Native.Nat.{◌+◌, ◌-◌, ◌*◌, ◌^◌, ◌<◌}
use mathlib.Core.Path.{◌≡◌, ◌∙◌}
use native.Mathlib.Omega.{arith}
use lib.ListN.{get_or}
use Rattle.format.specs.Bytes.{little, bytes}
use Rattle.scan.proofs.Digits.{none_read, one_lower, all_read, fits_64, too_wide, not_there, all_there}
use Rattle.scan.proofs.integers.little_endian.Goals as goal

pub returns-then-width-gt8 : goal.returns-then-width-gt8
returns-then-width-gt8 c =
    too_wide _ _ _ c.if-width-gt8.true

pub returns-then-message-at : goal.returns-then-message-at
returns-then-message-at c =
    not_there _ _ _ (omega arith)

pub returns-then-message-at-2 : goal.returns-then-message-at-2
returns-then-message-at-2 c =
    not_there _ _ _ (omega arith)

pub loop-k-init : goal.loop-k-init
loop-k-init c = none_read _ _ _

pub overflow_mul-n : goal.overflow_mul-n
overflow_mul-n c =
    let a = c.args in
    let k = c.loop-k.k in
    let more : c.loop-k.n * 256 + get_or a.message.now (a.at + (a.width - 1 - k)) 0 ≡ little (bytes a.message.now (a.at + (a.width - (k + 1))) (k + 1))
    = rw c.loop-k.invariant (one_lower a.message.now a.at k a.width (omega arith) (omega arith)) in
    let under : little (bytes a.message.now (a.at + (a.width - (k + 1))) (k + 1)) < 2 ^ 64 = fits_64 _ _ _ (λ i. (c.shared_slice_known-1.given i).fits) (omega arith) in
    omega (arith, more, under)

pub overflow_add-n : goal.overflow_add-n
overflow_add-n c =
    let a = c.args in
    let k = c.loop-k.k in
    let more : c.loop-k.n * 256 + get_or a.message.now (a.at + (a.width - 1 - k)) 0 ≡ little (bytes a.message.now (a.at + (a.width - (k + 1))) (k + 1))
    = rw c.loop-k.invariant (one_lower a.message.now a.at k a.width (omega arith) (omega arith)) in
    let under : little (bytes a.message.now (a.at + (a.width - (k + 1))) (k + 1)) < 2 ^ 64 = fits_64 _ _ _ (λ i. (c.shared_slice_known-1.given i).fits) (omega arith) in
    omega (arith, more, under)

pub loop-k-preserved : goal.loop-k-preserved
loop-k-preserved c =
    let a = c.args in
    rw c.loop-k.invariant (one_lower a.message.now a.at c.loop-k.k a.width (omega arith) (omega arith))

pub returns : goal.returns
returns c =
    c.loop-k.invariant ∙ all_read _ _ c.loop-k.k c.args.width (omega arith) (omega arith) ∙ all_there _ _ _ (omega arith) (omega arith)
