-- `scalar`: a row must be left, then the payload. Assumes nothing.
use native.Mathlib.Omega.{arith}
use Rattle.format.proofs.MarkFacts.{width_few}
use borrow.Author.Tests.{lt-ltb, le-ltb}
use Rattle.std.proofs.lemmas.Result.{err_from_is_err_and}
use Rattle.format.specs.Outcome.{◌>>=◌, ◌>>◌, guard}
use Rattle.format.specs.Tokens.{is_kind, members}
use Rattle.format.specs.Conditions.{when◌then◌else◌}
use Rattle.format.specs.Sequences.{row_left}
use Rattle.format.specs.Scalars.{scalar}
use Rattle.tokens.proofs.Laying.{laid_alone}
use Rattle.tokens.proofs.scalars.scalar.Goals as goal

pub returns-then-lent-row-clause-meets : goal.returns-then-lent-row-clause-meets
unfolding scalar row_left guard ◌>>◌
returns-then-lent-row-clause-meets c = rw (le-ltb _ _ c.if-lent-row.true)

pub returns-in_err-next-clause-meets : goal.returns-in_err-next-clause-meets
unfolding scalar row_left guard ◌>>◌ ◌>>=◌
returns-in_err-next-clause-meets c =
    let p = err_from_is_err_and c.from_residual.result c.from_residual.ensures.1 in
    rw (p.1, p.2, lt-ltb _ _ c.if-lent-row.false, ← c.width-width.ensures, ← c.in_err-next.ensures.is)

pub returns-clause-meets : goal.returns-clause-meets
unfolding scalar row_left guard ◌>>◌ ◌>>=◌ members is_kind when◌then◌else◌
returns-clause-meets c =
    rw (lt-ltb _ _ c.if-lent-row.false, ← c.width-width.ensures, ← c.in_ok-next.ensures.is) (laid_alone _ _ _ _ _ _ c.put_alone.ensures)

pub put_alone-requires : goal.put_alone-requires
put_alone-requires c = let w = c.width-width.ensures in omega (arith, width_few c.args.mark)
