-- `typed_object`: the count, then the pairs. Assumes nothing.
use mathlib.Core.Path.{sym}
use native.Mathlib.Omega.{arith}
use native.Mathlib.Nat.{sub-zero}
use lib.ListN.{length}
use Rattle.std.proofs.lemmas.Result.{err_from_is_err_and}
use Rattle.format.specs.Outcome.{◌>>=◌}
use Rattle.format.specs.Containers.{counted}
use Rattle.tokens.proofs.Laying.{within_from}
use Rattle.containers.proofs.Closing.{counted-closed}
use Rattle.containers.proofs.pairs.typed_object.Goals as goal

pub returns-in_err-count-clause-meets : goal.returns-in_err-count-clause-meets
unfolding counted ◌>>=◌
returns-in_err-count-clause-meets c =
    let p = err_from_is_err_and c.from_residual.result c.from_residual.ensures.1 in
    rw (p.1, p.2, ← c.in_err-count.ensures.is)

pub returns-clause-meets : goal.returns-clause-meets
returns-clause-meets c =
    rw (counted-closed _ _ _ _ _ _ _ _ _ (sym c.in_ok-count.ensures.is)) (c.close.ensures.meets _ _ (rw c.held_by-children.ensures.is at c.pairs-list.ensures.meets))

pub returns-clause-bounds : goal.returns-clause-bounds
returns-clause-bounds c =
    let b = c.in_ok-count.ensures.bounds in
    let z = c.close in within_from z.result _ _ _ _ (omega (arith, c.requires.2, b)) (z.ensures.bounds _ _ (rw (sub-zero (length c.args.message.now)) c.pairs-list.ensures.bounds) (omega arith))
