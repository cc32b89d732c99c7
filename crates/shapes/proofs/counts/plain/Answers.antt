-- `plain`: the integer. Assumes nothing.
use Rattle.std.proofs.lemmas.Result.{err_from_is_err_and}
use Rattle.format.specs.Outcome.{◌>>=◌}
use Rattle.format.specs.Dimensions.{plain}
use Rattle.shapes.proofs.Told.{told_plain}
use Rattle.shapes.proofs.counts.plain.Goals as goal

pub returns-in_err-count-clause-meets : goal.returns-in_err-count-clause-meets
unfolding plain ◌>>=◌
returns-in_err-count-clause-meets c =
    let p = err_from_is_err_and c.from_residual.result c.from_residual.ensures.1 in
    λ lent ancestry words. rw (p.1, p.2, ← c.in_err-count.ensures.is)

pub returns-clause-meets : goal.returns-clause-meets
unfolding plain ◌>>=◌
returns-clause-meets c =
    λ lent ancestry words. rw (← c.in_ok-count.ensures.is) (told_plain _ _ _ _ _ c.in_ok-count.ensures.bounds.0)
