-- `field`: one member after another. Assumes nothing.
use mathlib.Core.Path.{sym}
use native.Mathlib.Omega.{arith}
use Rattle.ways.proofs.Exits.{passed_on}
use Rattle.format.specs.Rows.{rows_in}
use Rattle.ways.proofs.Fields.{going_start, going_refused, going_leaf, going_inside, going_next, top_inside}
use Rattle.ways.proofs.members.field.Goals as goal

pub loop-here-init : goal.loop-here-init
loop-here-init c =
    (going_start _ _ _ _ c.requires.0, c.requires.0, c.requires.1, tt)

pub returns-in_err-here-clause-is : goal.returns-in_err-here-clause-is
returns-in_err-here-clause-is c =
    rw (passed_on _ _ c.from_residual.ensures.1) (sym (going_refused _ _ _ _ _ _ _ c.loop-here.invariant.0 _ (rw c.in_err-here.was at c.advance.ensures)))

pub returns-in-Leaf-clause-is : goal.returns-in-Leaf-clause-is
returns-in-Leaf-clause-is c =
    let s = rw (c.in_ok-here.was, c.in-Leaf.is) at c.advance.ensures in
    rw c.unwrap_or.ensures (sym (going_leaf _ _ _ _ _ _ _ c.loop-here.invariant.0 _ s))

pub overflow_add-row : goal.overflow_add-row
unfolding rows_in
overflow_add-row c =
    let s = rw (c.in_ok-here.was, c.in-Inside.is) at c.advance.ensures in omega (arith, s.2)

pub loop-here-preserved-in-Inside : goal.loop-here-preserved-in-Inside
loop-here-preserved-in-Inside c =
    let s = rw (c.in_ok-here.was, c.in-Inside.is) at c.advance.ensures in
    let i = c.loop-here.invariant in (
      rw c.or-top.ensures (going_inside _ _ _ _ _ _ _ i.0 _ (omega (arith, s.1, s.2)) s),
      s.2,
      s.3,
      rw c.or-top.ensures (top_inside _ _ _ i.3 s.2),
    )

pub loop-here-preserved : goal.loop-here-preserved
loop-here-preserved c =
    let s = rw (c.in_ok-here.was, c.in-Next.is) at c.advance.ensures in
    let i = c.loop-here.invariant in (going_next _ _ _ _ _ _ _ i.0 _ (omega (arith, s.1, s.2)) s, i.1, i.2, i.3)
