-- `dimension`: a row must be left, then the number. Assumes nothing.
use borrow.Author.Tests.{lt-ltb, le-ltb}
use Rattle.std.proofs.lemmas.Result.{err_from_is_err_and}
use Rattle.format.specs.Outcome.{◌>>=◌, ◌>>◌, guard}
use Rattle.format.specs.Sequences.{row_left}
use Rattle.format.specs.Dimensions.{dimension}
use Rattle.dimensions.proofs.Going.{laid_one}
use Rattle.dimensions.proofs.forms.dimension.Goals as goal

pub returns-then-lent-row-clause-meets : goal.returns-then-lent-row-clause-meets
unfolding dimension row_left guard ◌>>◌
returns-then-lent-row-clause-meets c = rw (le-ltb _ _ c.if-lent-row.true)

pub returns-in_err-size-clause-meets : goal.returns-in_err-size-clause-meets
unfolding dimension row_left guard ◌>>◌ ◌>>=◌
returns-in_err-size-clause-meets c =
    let p = err_from_is_err_and c.from_residual.result c.from_residual.ensures.1 in
    rw (p.1, p.2, lt-ltb _ _ c.if-lent-row.false, ← c.in_err-size.ensures.is)

pub returns-clause-meets : goal.returns-clause-meets
unfolding dimension row_left guard ◌>>◌ ◌>>=◌
returns-clause-meets c =
    rw (lt-ltb _ _ c.if-lent-row.false, ← c.in_ok-size.ensures.is, ← c.width-width.ensures) (laid_one _ _ _ _ _ _ c.in_ok-size.ensures.bounds.0 c.put.ensures)
