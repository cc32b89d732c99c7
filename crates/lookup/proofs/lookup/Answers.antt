-- `lookup`: the container on the way, then its members. Assumes nothing.
use mathlib.Core.Path.{◌∙◌}
use native.Mathlib.Omega.{arith}
use Rattle.ways.proofs.Exits.{passed_on}
use Rattle.ways.proofs.Along.{went}
use Rattle.lookup.proofs.Walk.{no_container, container}
use Rattle.lookup.proofs.lookup.Goals as goal

pub returns-in_err-stop : goal.returns-in_err-stop
returns-in_err-stop c =
    rw (passed_on _ _ c.from_residual.ensures.1) (no_container _ _ _ _ _ (rw (c.in_err-stop.was, c.count.ensures) at c.along.ensures))

pub overflow_add-row : goal.overflow_add-row
overflow_add-row c =
    let f = went _ _ _ _ c.along.ensures _ c.in_ok-stop.was in omega (arith, f.before, c.count.ensures)

pub find-requires : goal.find-requires
find-requires c =
    let f = went _ _ _ _ c.along.ensures _ c.in_ok-stop.was in omega (arith, f.inside, c.count.ensures)

pub returns : goal.returns
returns c =
    c.find.ensures ∙ container _ _ _ _ _ (rw (c.in_ok-stop.was, c.count.ensures) at c.along.ensures)
