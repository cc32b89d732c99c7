-- `column`: the values before the one reached are right. Assumes nothing.
use Prim.Native.Nat.{◌+◌, ◌-◌, ◌*◌, ◌<◌}
use mathlib.Core.Path.{◌≡◌, refl, sym, ◌∙◌}
use native.Mathlib.Omega.{arith}
use Rattle.std.proofs.Common.{rules}
use native.Mathlib.Nat.{sub-zero}
use Rattle.columns.proofs.Down.{last_here, last_next, column_stop, column_wrong, column_right, column_end}
use Rattle.columns.proofs.column.Goals as goal

pub loop-passed-init : goal.loop-passed-init
loop-passed-init c =
    λ h. rw (sub-zero c.args.count) (record { inside = search rules; same = refl })

pub returns-then-best-here-clause-is : goal.returns-then-best-here-clause-is
returns-then-best-here-clause-is c =
    λ h. let i = c.loop-passed.invariant h in rw (← i.same) (column_stop _ _ _ _ _ _ _ c.requires.1 c.if-best-here.true)

pub returns-then-not-is_right-clause-is : goal.returns-then-not-is_right-clause-is
returns-then-not-is_right-clause-is c =
    λ h.
    let i = c.loop-passed.invariant h in
    let more : 0 < c.args.count - c.loop-passed.passed = omega arith in
    rw (← i.same) (column_wrong _ _ _ _ _ _ _ more c.requires.1 c.if-best-here.false (sym (c.is_right.ensures (last_here _ _ _ _ more i.inside)) ∙ c.if-not-is_right.true))

pub loop-passed-preserved : goal.loop-passed-preserved
loop-passed-preserved c =
    λ h.
    let i = c.loop-passed.invariant h in
    let a = c.args in
    let here = c.loop-passed.here in
    let n = a.count - c.loop-passed.passed in
    let more : 0 < n = omega arith in
    let one : a.count - (c.loop-passed.passed + 1) ≡ n - 1 = omega arith in
    let e : here + a.wide + a.stride + (n - 1) * a.stride ≡ here + a.stride + a.wide + (n - 1) * a.stride = omega arith in
    rw one (record {
      inside = rw e at (last_next _ _ _ _ more i.inside);
      same = column_right _ _ _ _ _ _ more (sym (c.is_right.ensures (last_here _ _ _ _ more i.inside)) ∙ c.if-not-is_right.false) ∙ i.same;
    })

pub returns-clause-is : goal.returns-clause-is
returns-clause-is c =
    λ h. let i = c.loop-passed.invariant h in rw (← i.same) (column_end _ _ _ _ _ _ _ c.requires.1 (omega arith))
