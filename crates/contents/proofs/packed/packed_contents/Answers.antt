-- `packed_contents`: chars one by one, and anything else as it is. Assumes nothing.
use Prim.Native.Nat.{◌-◌}
use mathlib.Core.Path.{◌≡◌, sym, ap, ◌∙◌}
use native.Mathlib.Omega.{arith}
use native.Mathlib.Nat.{sub-zero}
use Rattle.format.specs.Marks.{'C'}
use Rattle.contents.proofs.Elements.{from, from_none, from_all, from_any, char_on, char_off, chars_fit}
use Rattle.contents.proofs.packed.packed_contents.Goals as goal

pub returns-then-mark-ne-CHAR : goal.returns-then-mark-ne-CHAR
returns-then-mark-ne-CHAR c =
    λ row. sym (from_any _ _ row _ c.requires.0 c.if-mark-ne-CHAR.true _ 0 0) ∙ from_all _ _ row _ _

pub loop-i-init : goal.loop-i-init
loop-i-init c =
    (omega arith, chars_fit _ _ _ _ c.if-mark-ne-CHAR.false c.requires.1, λ row. ap (λ j. from c.args.message.now c.args.start row 'C' 0 j 0) (sym (sub-zero c.args.n)))

pub returns-then-message-place-gt127 : goal.returns-then-message-place-gt127
returns-then-message-place-gt127 c =
    let i = c.loop-i.invariant in
    λ row. sym (char_off _ _ row _ _ (omega arith) (omega arith) c.if-message-place-gt127.true) ∙ sym (i.2 row) ∙ rw (← c.if-mark-ne-CHAR.false) (from_all _ _ row _ _)

pub loop-i-preserved : goal.loop-i-preserved
loop-i-preserved c =
    let i = c.loop-i.invariant in
    (omega arith, i.1, λ row. i.2 row ∙ char_on _ _ row _ _ (omega arith) (omega arith) c.if-message-place-gt127.false)

pub returns : goal.returns
returns c =
    let i = c.loop-i.invariant in
    let a = c.args in
    let e : a.n - c.loop-i.i ≡ 0 = omega arith in
    λ row. sym (i.2 row ∙ ap (λ j. from a.message.now a.start row 'C' c.loop-i.i j c.loop-i.i) e ∙ from_none _ _ row _ _ _) ∙ rw (← c.if-mark-ne-CHAR.false) (from_all _ _ row _ _)
