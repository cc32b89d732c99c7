-- `repeated`: so many items, one after another. Assumes nothing.
use Prim.Native.Nat.{◌+◌, ◌-◌, ◌<◌}
use mathlib.Core.Path.{◌≡◌, refl, ◌∙◌}
use native.Mathlib.Omega.{arith}
use native.Mathlib.Nat.{sub-zero}
use Rattle.std.proofs.lemmas.Result.{err_from_is_err_and}
use Rattle.format.specs.Sequences.{repeat}
use Rattle.tokens.proofs.Sofar.{seq_fault}
use Rattle.dimensions.specs.Answers.{item_of}
use Rattle.shapes.proofs.Cases.{repeat-none, repeat_more}
use Rattle.dimensions.proofs.Going.{going_start, going_step, going_fault, going_end}
use Rattle.shapes.proofs.vectors.repeated.Goals as goal

pub loop-count-init : goal.loop-count-init
loop-count-init c =
    (c.requires.0, omega arith, omega arith, refl, rw (sub-zero c.args.n) (going_start _ _ _ _))

pub returns-in_err-next-clause-meets : goal.returns-in_err-next-clause-meets
returns-in_err-next-clause-meets c =
    let p = err_from_is_err_and c.from_residual.result c.from_residual.ensures.1 in
    let more : 0 < c.args.n - c.loop-count.count = omega arith in
    rw (p.1, p.2) (going_fault c.loop-count.invariant.4 _ _ (repeat_more _ _ _ _ more ∙ seq_fault _ _ _ _ _ _ c.in_err-next.ensures.meets))

pub loop-count-preserved : goal.loop-count-preserved
loop-count-preserved c =
    let a = c.args in
    let item = item_of a.message.now a.lent a.form in
    let l = c.loop-count in
    let d = c.in_ok-next.ensures in
    let t = c.times.ensures in
    let left = a.n - l.count in
    let more : 0 < left = omega arith in
    let one : a.n - (l.count + 1) ≡ left - 1 = omega arith in (
      omega (arith, l.invariant.0, d.bounds),
      omega (arith, l.invariant.1, d.bounds),
      omega arith,
      c.item.auto.rows ∙ l.invariant.3,
      rw one (going_step l.invariant.4 item (repeat (left - 1) item) l.read.at _ _ _ _ (repeat_more _ _ _ _ more) d.meets _ t),
    )

pub returns-clause-meets : goal.returns-clause-meets
returns-clause-meets c =
    let i = c.loop-count.invariant in going_end i.4 _ (repeat-none _ _ _ _ (omega arith)) i.2
