-- `read_core`: the limit, the value, and what follows it. Assumes nothing.
use native.Mathlib.Omega.{arith}
use Prim.Native.Nat.{ℕ, ◌≤◌}
use mathlib.Core.Path.{subst}
use mathlib.Core.List.{List}
use lib.ListN.{length}
use lib.Seq.{take-length}
use Rattle.std.proofs.lemmas.Result.{err_from_is_err_and}
use Rattle.reader.proofs.MessageCases.{read_long, read-fault, read_more, read_lies}
use Rattle.reader.proofs.message.read_core.Goals as goal

pub returns-then-end-clause-meets : goal.returns-then-end-clause-meets
returns-then-end-clause-meets c =
    read_long _ _ _ c.if-end.true

pub returns-in_err-value-clause-meets : goal.returns-in_err-value-clause-meets
returns-in_err-value-clause-meets c =
    let p = err_from_is_err_and c.from_residual.result c.from_residual.ensures.1 in
    rw (p.1, p.2) (read-fault _ _ _ c.if-end.false _ _ (rw c.skip-at.ensures.is at (rw (take-length _) at c.in_err-value.ensures.meets)))

pub returns-then-after-end-clause-meets : goal.returns-then-after-end-clause-meets
returns-then-after-end-clause-meets c =
    let l = rw c.skip-at.ensures.is at (rw (take-length _) at c.in_ok-value.ensures.meets) in
    let s = c.skip-after.ensures in rw s.is (read_more _ _ _ c.if-end.false l.forest _ l.read (rw (← s.is) (λ q. omega (arith, q, c.if-after-end.true))))

pub returns-clause-meets : goal.returns-clause-meets
returns-clause-meets c =
    let l = rw c.skip-at.ensures.is at (rw (take-length _) at c.in_ok-value.ensures.meets) in
    let w = c.in_ok-value.ensures.bounds in
    let k = subst (λ (m : List ℕ). c.in_ok-value.value.at ≤ length m) (take-length c.args.message.now) w.inside in
    let s = c.skip-after.ensures in read_lies _ _ _ c.if-end.false _ _ _ _ l (rw (← s.is) (omega arith))
