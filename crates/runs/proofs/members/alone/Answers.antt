-- `alone`: a loop over tokens of one sort. Assumes nothing.
use Prim.Native.Nat.{◌+◌}
use mathlib.Core.Path.{◌≡◌}
use native.Mathlib.Omega.{arith}
use native.Mathlib.Nat.{add-zero}
use Rattle.runs.proofs.MemberLaws.{running_start, running_turn, value_passed}
use Rattle.runs.proofs.members.alone.Goals as goal

pub loop-count-init : goal.loop-count-init
loop-count-init g c =
    rw (add-zero c.args.first) (running_start _ _ _ _ _ _ _ _ c.requires.here)

pub loop-count-preserved : goal.loop-count-preserved
loop-count-preserved g c =
    let p = c.put_alone in
    let s = rw c.in-Some.is at (c.requires.stands _ _ (omega arith) c.end.ensures) in
    let v = s.stands in
    let next : c.args.first + (c.loop-count.count + 1) ≡ c.args.first + c.loop-count.count + 1 = omega arith in
    rw next
    (running_turn _ _ _ _ _ _ _ _ c.loop-count.invariant (omega arith) v.on s.inside (omega arith) (omega arith) p.auto.rows
    (value_passed _ _ _ _ _ _ _ _ _ v (omega arith) p.ensures))
