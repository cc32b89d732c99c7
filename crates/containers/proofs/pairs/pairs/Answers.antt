-- `pairs`: a loop over the pairs. Assumes nothing.
use mathlib.Core.Path.{refl, ◌∙◌}
use native.Mathlib.Omega.{arith}
use Rattle.std.proofs.lemmas.Result.{err_from_is_err_and}
use Rattle.containers.proofs.Loops.{some_start, some_step, some_fault, some_end}
use Rattle.containers.proofs.pairs.pairs.Goals as goal

pub loop-count-init : goal.loop-count-init
loop-count-init c =
    (omega arith, refl, some_start _ _ _ _ _ _)

pub returns-in_err-end-clause-meets : goal.returns-in_err-end-clause-meets
returns-in_err-end-clause-meets c =
    let p = err_from_is_err_and c.from_residual.result c.from_residual.ensures.1 in
    rw (p.1, p.2) (some_fault _ _ _ _ _ _ c.loop-count.invariant.2 _ _ c.loop-count-test.true c.in_err-end.ensures.meets)

pub loop-count-preserved : goal.loop-count-preserved
loop-count-preserved c =
    let i = c.loop-count.invariant in
    let w = c.in_ok-end.ensures.bounds in (
      omega arith,
      c.pair.auto.rows ∙ i.1,
      some_step _ _ _ _ _ _ i.2 _ _ _ c.loop-count-test.true c.in_ok-end.ensures.meets,
    )

pub returns-clause-meets : goal.returns-clause-meets
returns-clause-meets c = some_end _ _ _ _ _ _ c.loop-count.invariant.2 c.loop-count-test.false
