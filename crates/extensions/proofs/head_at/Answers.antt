-- `head_at`: the id, the length, and the size that the id asks for. Assumes nothing.
use borrow.Author.Tests.{lt-ltb, eq-eqb, ne_eqb}
use Rattle.std.proofs.lemmas.Result.{err_from_is_err_and}
use Rattle.format.specs.Outcome.{◌>>=◌, ◌>>◌, guard}
use Rattle.format.specs.Sequences.{row_left}
use Rattle.format.specs.Extensions.{may_have, extension}
use Rattle.extensions.proofs.head_at.Goals as goal

pub returns-in_err-id-clause-meets : goal.returns-in_err-id-clause-meets
unfolding extension row_left guard ◌>>◌ ◌>>=◌
returns-in_err-id-clause-meets c =
    let p = err_from_is_err_and c.from_residual.result c.from_residual.ensures.1 in
    rw p.1 (λ lent row h. rw (p.2, lt-ltb _ _ h, ← c.in_err-id.ensures.is))

pub returns-in_err-size-clause-meets : goal.returns-in_err-size-clause-meets
unfolding extension row_left guard ◌>>◌ ◌>>=◌
returns-in_err-size-clause-meets c =
    let p = err_from_is_err_and c.from_residual-in_err-size.result c.from_residual-in_err-size.ensures.1 in
    rw p.1 (λ lent row h. rw (p.2, lt-ltb _ _ h, ← c.in_ok-id.ensures.is, ← c.in_err-size.ensures.is))

pub returns-then-size-size_of-clause-meets : goal.returns-then-size-size_of-clause-meets
unfolding extension may_have row_left guard ◌>>◌ ◌>>=◌
returns-then-size-size_of-clause-meets c =
    λ lent row h. rw (lt-ltb _ _ h, ← c.in_ok-id.ensures.is, ← c.in_ok-size.ensures.is, ← c.size_of.ensures, ne_eqb _ _ c.if-size-size_of.true)

pub returns-clause-meets : goal.returns-clause-meets
unfolding extension may_have row_left guard ◌>>◌ ◌>>=◌
returns-clause-meets c =
    λ lent row h. rw (lt-ltb _ _ h, ← c.in_ok-id.ensures.is, ← c.in_ok-size.ensures.is, ← c.size_of.ensures, eq-eqb _ _ c.if-size-size_of.false)
