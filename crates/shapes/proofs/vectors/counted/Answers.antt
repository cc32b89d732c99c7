-- `counted`: the number of dimensions, its bounds, and then so many. Assumes nothing.
use borrow.Author.Tests.{le-leb, lt-leb}
use Rattle.std.proofs.lemmas.Result.{err_from_is_err_and}
use Rattle.format.specs.Conditions.{between}
use Rattle.format.specs.Outcome.{◌>>=◌, ◌>>◌, guard}
use Rattle.format.specs.Dimensions.{counted}
use Rattle.shapes.proofs.vectors.counted.Goals as goal

pub returns-in_err-count-clause-meets : goal.returns-in_err-count-clause-meets
unfolding counted ◌>>=◌
returns-in_err-count-clause-meets c =
    let p = err_from_is_err_and c.from_residual.result c.from_residual.ensures.1 in
    rw (p.1, p.2, ← c.in_err-count.ensures.is)

pub returns-then-n-lt1-clause-meets : goal.returns-then-n-lt1-clause-meets
unfolding counted between guard ◌>>◌ ◌>>=◌
returns-then-n-lt1-clause-meets c =
    rw (← c.in_ok-count.ensures.is, lt-leb _ _ c.if-n-lt1.true)

pub returns-then-n-gt-MOST_DIMENSIONS-clause-meets : goal.returns-then-n-gt-MOST_DIMENSIONS-clause-meets
unfolding counted between guard ◌>>◌ ◌>>=◌
returns-then-n-gt-MOST_DIMENSIONS-clause-meets c =
    rw (← c.in_ok-count.ensures.is, le-leb _ _ c.if-n-lt1.false, lt-leb _ _ c.if-n-gt-MOST_DIMENSIONS.true)

pub returns-clause-meets : goal.returns-clause-meets
unfolding counted between guard ◌>>◌ ◌>>=◌
returns-clause-meets c =
    rw (← c.in_ok-count.ensures.is, le-leb _ _ c.if-n-lt1.false, le-leb _ _ c.if-n-gt-MOST_DIMENSIONS.false) c.repeated.ensures.meets
