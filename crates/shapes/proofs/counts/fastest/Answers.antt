-- `fastest`: a vector's shape, and the `]` after it. Assumes nothing.
use mathlib.Core.Path.{sym}
use borrow.Author.Tests.{lt-ltb, le-ltb, eq-eqb, ne_eqb}
use Rattle.std.proofs.lemmas.Result.{err_from_is_err_and}
use Rattle.format.specs.Outcome.{◌>>=◌, ◌>>◌, guard}
use Rattle.format.specs.Bytes.{byte, one_of}
use Rattle.format.specs.Dimensions.{fastest}
use Rattle.shapes.proofs.Told.{told_shaped}
use Rattle.shapes.proofs.counts.fastest.Goals as goal

pub returns-in_err-dims-clause-meets : goal.returns-in_err-dims-clause-meets
unfolding fastest ◌>>=◌
returns-in_err-dims-clause-meets c =
    let p = err_from_is_err_and c.from_residual.result c.from_residual.ensures.1 in
    rw (p.1, p.2, c.in_err-dims.ensures.meets)

pub returns-then-end-next-clause-meets : goal.returns-then-end-next-clause-meets
unfolding fastest one_of byte guard ◌>>◌ ◌>>=◌
returns-then-end-next-clause-meets c =
    rw (c.in_ok-dims.ensures.meets.read, le-ltb _ _ c.if-end-next.true)

pub returns-then-message-next-ne-ARRAY_END-clause-meets : goal.returns-then-message-next-ne-ARRAY_END-clause-meets
unfolding fastest one_of byte guard ◌>>◌ ◌>>=◌
returns-then-message-next-ne-ARRAY_END-clause-meets c =
    rw (c.in_ok-dims.ensures.meets.read, lt-ltb _ _ c.if-end-next.false, ne_eqb _ _ (λ q. c.if-message-next-ne-ARRAY_END.true (sym q)))

pub returns-clause-meets : goal.returns-clause-meets
unfolding fastest one_of byte guard ◌>>◌ ◌>>=◌
returns-clause-meets c =
    let l = c.in_ok-dims.ensures.meets in
    told_shaped _ _ _ _ _ _ _ _ _ _ _ l (rw (l.read, lt-ltb _ _ c.if-end-next.false, eq-eqb _ _ (sym c.if-message-next-ne-ARRAY_END.false)))
