-- `number`: by the tests in their order. Assumes nothing.
use Prim.Native.Nat.{◌+◌, ◌≤◌}
use mathlib.Core.Path.{◌≡◌, sym, ◌∙◌}
use native.Mathlib.Omega.{arith}
use lib.ListN.{length}
use Rattle.format.specs.Marks.{width}
use Rattle.format.specs.Bytes.{little, bytes}
use Rattle.format.proofs.MarkFacts.{width_few}
use Rattle.format.proofs.IntegerCases.{number_early, number_negative, number_over, number-done}
use Rattle.scan.proofs.Digits.{all_there}
use Rattle.scan.proofs.integers.number.Goals as goal

pub returns-then-end-start-clause-is : goal.returns-then-end-start-clause-is
returns-then-end-start-clause-is c =
    sym (number_early _ _ _ _ _ (omega arith))

pub returns-then-end-start-2-clause-is : goal.returns-then-end-start-2-clause-is
returns-then-end-start-2-clause-is c =
    let w = c.width-width.ensures in sym (number_early _ _ _ _ _ (omega arith))

pub returns-then-is_negative-clause-is : goal.returns-then-is_negative-clause-is
returns-then-is_negative-clause-is c =
    let w = c.width-width.ensures in sym (number_negative _ _ _ _ _ (omega arith) (rw (← c.is_negative.ensures) c.if-is_negative.true))

pub returns-then-highest-n-clause-is : goal.returns-then-highest-n-clause-is
returns-then-highest-n-clause-is c =
    let reached : c.args.start + width c.args.mark.0 ≤ length c.args.message.now = omega (arith, c.width-width.ensures) in
    let read : c.little_endian-n.result ≡ little (bytes c.args.message.now c.args.start (width c.args.mark.0)) = c.little_endian-n.ensures ∙ rw c.width-width.ensures (sym (all_there _ _ _ (width_few _) reached)) in sym (number_over _ _ _ _ _ (reached) (rw (← c.is_negative.ensures) c.if-is_negative.false) (rw (← read) c.if-highest-n.true))

pub returns-clause-is : goal.returns-clause-is
returns-clause-is c =
    let reached : c.args.start + width c.args.mark.0 ≤ length c.args.message.now = omega (arith, c.width-width.ensures) in
    let read : c.little_endian-n.result ≡ little (bytes c.args.message.now c.args.start (width c.args.mark.0)) = c.little_endian-n.ensures ∙ rw c.width-width.ensures (sym (all_there _ _ _ (width_few _) reached)) in
    let w = c.width-width.ensures in rw (read, w) (sym (number-done _ _ _ _ _ (reached) (rw (← c.is_negative.ensures) c.if-is_negative.false) (rw (← read) c.if-highest-n.false)))
