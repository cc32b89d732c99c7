-- `text_leaf`: a row must be left, then the length. Assumes nothing.
use borrow.Author.Tests.{lt-ltb, le-ltb}
use Rattle.std.proofs.lemmas.Result.{err_from_is_err_and}
use Rattle.format.specs.Outcome.{◌>>=◌, ◌>>◌, guard}
use Rattle.format.specs.Sequences.{row_left}
use Rattle.format.specs.Schemas.{text_leaf}
use Rattle.kinds.proofs.leaves.text_leaf.Goals as goal

pub returns-then-lent-row-clause-meets : goal.returns-then-lent-row-clause-meets
unfolding text_leaf row_left guard ◌>>◌
returns-then-lent-row-clause-meets c = rw (le-ltb _ _ c.if-lent-row.true)

pub returns-in_err-length-clause-meets : goal.returns-in_err-length-clause-meets
unfolding text_leaf row_left guard ◌>>◌ ◌>>=◌
returns-in_err-length-clause-meets c =
    let p = err_from_is_err_and c.from_residual.result c.from_residual.ensures.1 in
    rw (p.1, p.2, lt-ltb _ _ c.if-lent-row.false, ← c.in_err-length.ensures.is)

pub returns-clause-meets : goal.returns-clause-meets
unfolding text_leaf row_left guard ◌>>◌ ◌>>=◌
returns-clause-meets c =
    rw (lt-ltb _ _ c.if-lent-row.false, ← c.in_ok-length.ensures.is) c.leaf.ensures.meets
