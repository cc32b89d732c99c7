-- `values`: texts; or scalars, where those of the first's mark come first. Assumes nothing.
use native.Mathlib.Omega.{arith}
use Rattle.runs.proofs.MemberLaws.{passed_more}
use Rattle.runs.proofs.members.values.Goals as goal

pub returns : goal.returns
returns c =
    let r = c.alike-run in
    let q = c.scalars-more in
    let e = r.ensures.1 in
    let f = q.ensures.1 in
    (passed_more _ _ _ _ _ _ _ _ _ r.result q.result r.ensures.0 q.ensures.0, omega arith)
