-- `slowest`: a vector's shape. Assumes nothing.
use Rattle.std.proofs.lemmas.Result.{err_from_is_err_and}
use Rattle.format.specs.Outcome.{◌>>=◌}
use Rattle.format.specs.Dimensions.{slowest}
use Rattle.shapes.proofs.Told.{told_shaped}
use Rattle.shapes.proofs.counts.slowest.Goals as goal

pub returns-in_err-dims-clause-meets : goal.returns-in_err-dims-clause-meets
unfolding slowest ◌>>=◌
returns-in_err-dims-clause-meets c =
    let p = err_from_is_err_and c.from_residual.result c.from_residual.ensures.1 in
    rw (p.1, p.2, c.in_err-dims.ensures.meets)

pub returns-clause-meets : goal.returns-clause-meets
unfolding slowest ◌>>=◌
returns-clause-meets c =
    let l = c.in_ok-dims.ensures.meets in told_shaped _ _ _ _ _ _ _ _ _ _ _ l (rw l.read)
