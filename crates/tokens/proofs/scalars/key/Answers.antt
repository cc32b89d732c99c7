-- `key`: the mark of its length, a row, then the length and the payload. Assumes nothing.
use borrow.Author.Tests.{lt-ltb, le-ltb}
use Rattle.std.proofs.lemmas.Result.{err_from_is_err_and}
use Rattle.format.specs.Outcome.{◌>>=◌, ◌>>◌, guard}
use Rattle.format.specs.Bytes.{byte, one_of}
use Rattle.format.specs.Tokens.{is_kind, members}
use Rattle.format.specs.Conditions.{when◌then◌else◌}
use Rattle.format.specs.Sequences.{row_left}
use Rattle.format.specs.Scalars.{key}
use Rattle.tokens.proofs.Laying.{laid_alone}
use Rattle.tokens.proofs.scalars.key.Goals as goal

pub returns-then-end-at-clause-meets : goal.returns-then-end-at-clause-meets
unfolding key one_of byte guard ◌>>◌ ◌>>=◌
returns-then-end-at-clause-meets c = rw (le-ltb _ _ c.if-end-at.true)

pub returns-then-not-is_integer-clause-meets : goal.returns-then-not-is_integer-clause-meets
unfolding key one_of byte guard ◌>>◌ ◌>>=◌
returns-then-not-is_integer-clause-meets c =
    rw (lt-ltb _ _ c.if-end-at.false, ← c.is_integer.ensures, c.if-not-is_integer.true)

pub returns-then-lent-row-clause-meets : goal.returns-then-lent-row-clause-meets
unfolding key one_of byte row_left guard ◌>>◌ ◌>>=◌
returns-then-lent-row-clause-meets c =
    rw (lt-ltb _ _ c.if-end-at.false, ← c.is_integer.ensures, c.if-not-is_integer.false, le-ltb _ _ c.if-lent-row.true)

pub returns-in_err-length-clause-meets : goal.returns-in_err-length-clause-meets
unfolding key one_of byte row_left guard ◌>>◌ ◌>>=◌
returns-in_err-length-clause-meets c =
    let p = err_from_is_err_and c.from_residual.result c.from_residual.ensures.1 in
    rw (p.1, p.2, lt-ltb _ _ c.if-end-at.false, ← c.is_integer.ensures, c.if-not-is_integer.false, lt-ltb _ _ c.if-lent-row.false, ← c.in_err-length.ensures.is)

pub returns-in_err-next-clause-meets : goal.returns-in_err-next-clause-meets
unfolding key one_of byte row_left guard ◌>>◌ ◌>>=◌
returns-in_err-next-clause-meets c =
    let p = err_from_is_err_and c.from_residual-in_err-next.result c.from_residual-in_err-next.ensures.1 in
    rw (p.1, p.2, lt-ltb _ _ c.if-end-at.false, ← c.is_integer.ensures, c.if-not-is_integer.false, lt-ltb _ _ c.if-lent-row.false, ← c.in_ok-length.ensures.is, ← c.in_err-next.ensures.is)

pub returns-clause-meets : goal.returns-clause-meets
unfolding key one_of byte row_left guard ◌>>◌ ◌>>=◌ members is_kind when◌then◌else◌
returns-clause-meets c =
    rw (lt-ltb _ _ c.if-end-at.false, ← c.is_integer.ensures, c.if-not-is_integer.false, lt-ltb _ _ c.if-lent-row.false, ← c.in_ok-length.ensures.is, ← c.in_ok-next.ensures.is) (laid_alone _ _ _ _ _ _ c.put_alone.ensures)
