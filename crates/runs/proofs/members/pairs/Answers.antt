-- `pairs`: a loop over them. Assumes nothing.
use mathlib.Core.Path.{◌∙◌}
use native.Mathlib.Omega.{arith}
use Rattle.runs.proofs.MemberLaws.{running_start, running_turn, pair_passed, value_stands, value_starts, value_inside}
use Rattle.runs.proofs.members.pairs.Goals as goal

pub loop-count-init : goal.loop-count-init
loop-count-init c =
    running_start _ _ _ _ _ _ _ _ c.requires

pub put_value-requires : goal.put_value-requires
put_value-requires c =
    let k = c.in-Some.ensures in
    let v = c.in-Some-value_end.ensures in
    let s = value_inside _ _ _ v in
    (omega arith, value_starts _ _ _ v, omega arith)

pub loop-count-preserved : goal.loop-count-preserved
loop-count-preserved c =
    let k = c.in-Some.ensures in
    let v = c.in-Some-value_end.ensures in
    let s = value_inside _ _ _ v in
    let p = c.put_alone in
    let q = c.put_value in
    running_turn _ _ _ _ _ _ _ _ c.loop-count.invariant (omega arith) (omega arith) (omega arith) (omega arith) (omega arith) (q.auto.rows ∙ p.auto.rows)
    (pair_passed _ _ _ _ _ _ _ _ _ _ _ k (value_stands _ _ _ v) (omega arith) p.ensures q.ensures)
