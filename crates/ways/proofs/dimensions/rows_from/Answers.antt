-- `rows_from`: each dimension is stored after those gathered. Assumes nothing.
use mathlib.Core.Path.{sym, ap, ◌∙◌}
use native.Mathlib.Omega.{arith}
use lib.ListN.{length-set}
use lib.Seq.{length-take-le}
use Rattle.ways.proofs.Exits.{passed_on}
use Rattle.format.specs.Answers.{found}
use Rattle.format.specs.Rows.{rows_in}
use Rattle.ways.proofs.Along.{went}
use Rattle.ways.proofs.Extents.{sofar_start, sofar_store, sofar_refused, sofar_ninth, sofar_end, sofar_none}
use Rattle.ways.proofs.dimensions.rows_from.Goals as goal

pub loop-row-init : goal.loop-row-init
unfolding rows_in
loop-row-init c =
    (sofar_start _ _ _ _ c.requires.0 (omega (arith, c.requires.1)), omega arith, c.requires.2)

pub returns-in_err-next : goal.returns-in_err-next
unfolding rows_in
returns-in_err-next c =
    let e = sym c.along_child.ensures ∙ ap found c.in_err-next.was in
    rw (passed_on _ _ c.from_residual.ensures.1) (sofar_refused _ _ _ _ _ _ _ c.loop-row.invariant.0 c.loop-row-test.true e)

pub returns-then-many-eq-DIMENSION_LIMIT : goal.returns-then-many-eq-DIMENSION_LIMIT
unfolding rows_in
returns-then-many-eq-DIMENSION_LIMIT c =
    let e = sym c.along_child.ensures ∙ ap found c.in_ok-next.was in let i = c.loop-row.invariant in let k = length-take-le c.loop-row.many c.loop-row.into (omega (arith, i.1, i.2)) in sofar_ninth _ _ _ _ _ _ _ i.0 c.loop-row-test.true e (omega arith)

pub loop-row-smaller : goal.loop-row-smaller
unfolding rows_in
loop-row-smaller c =
    let f = went _ _ _ _ c.along_child.ensures _ c.in_ok-next.was in omega (arith, f.up, f.before)

pub loop-row-preserved : goal.loop-row-preserved
unfolding rows_in
loop-row-preserved c =
    let e = sym c.along_child.ensures ∙ ap found c.in_ok-next.was in
    let i = c.loop-row.invariant in
    let t = c.loop-row-test.true in (
      sofar_store _ _ _ _ c.loop-row.row _ c.loop-row.many _ c.loop-row.into i.0 t e (omega (arith, i.2, i.1, c.if-many-eq-DIMENSION_LIMIT.false)) (ap (λ r. r.count) (c.load.ensures.there (omega (arith, t, c.requires.1)))),
      omega (arith, i.1, c.if-many-eq-DIMENSION_LIMIT.false),
      simp length-set i.2,
    )

pub returns-then-many-eq0 : goal.returns-then-many-eq0
unfolding rows_in
returns-then-many-eq0 c =
    let i = c.loop-row.invariant in sofar_none _ _ _ _ _ (rw c.if-many-eq0.true at i.0) c.loop-row-test.false

pub returns : goal.returns
unfolding rows_in
returns c =
    let i = c.loop-row.invariant in let k = length-take-le c.loop-row.many c.loop-row.into (omega (arith, i.1, i.2)) in (sofar_end _ _ _ _ _ _ i.0 c.loop-row-test.false (omega arith) (omega arith), omega (arith, i.1, i.2), i.2)
