-- `text`: a row must be left, then the length and the payload. Assumes nothing.
use borrow.Author.Tests.{lt-ltb, le-ltb}
use Rattle.std.proofs.lemmas.Result.{err_from_is_err_and}
use Rattle.format.specs.Outcome.{◌>>=◌, ◌>>◌, guard}
use Rattle.format.specs.Tokens.{members}
use Rattle.format.specs.Sequences.{row_left}
use Rattle.format.specs.Scalars.{text}
use Rattle.tokens.proofs.Laying.{laid_alone}
use Rattle.tokens.proofs.scalars.text.Goals as goal

pub returns-then-lent-row-clause-meets : goal.returns-then-lent-row-clause-meets
unfolding text row_left guard ◌>>◌
returns-then-lent-row-clause-meets c = rw (le-ltb _ _ c.if-lent-row.true)

pub returns-in_err-length-clause-meets : goal.returns-in_err-length-clause-meets
unfolding text row_left guard ◌>>◌ ◌>>=◌
returns-in_err-length-clause-meets c =
    let p = err_from_is_err_and c.from_residual.result c.from_residual.ensures.1 in
    rw (p.1, p.2, lt-ltb _ _ c.if-lent-row.false, ← c.in_err-length.ensures.is)

pub returns-in_err-next-clause-meets : goal.returns-in_err-next-clause-meets
unfolding text row_left guard ◌>>◌ ◌>>=◌
returns-in_err-next-clause-meets c =
    let p = err_from_is_err_and c.from_residual-in_err-next.result c.from_residual-in_err-next.ensures.1 in
    rw (p.1, p.2, lt-ltb _ _ c.if-lent-row.false, ← c.in_ok-length.ensures.is, ← c.in_err-next.ensures.is)

pub returns-clause-meets : goal.returns-clause-meets
unfolding text row_left guard ◌>>◌ ◌>>=◌ members
returns-clause-meets c =
    rw (lt-ltb _ _ c.if-lent-row.false, ← c.in_ok-length.ensures.is, ← c.in_ok-next.ensures.is) (laid_alone _ _ _ _ _ _ c.put_alone.ensures)
