-- `table`: the schema, the count, the payload. Assumes nothing.
use mathlib.Core.Path.{sym}
use native.Mathlib.Omega.{arith}
use borrow.Author.Tests.{lt-ltb, eq-eqb}
use Rattle.std.proofs.lemmas.Result.{err_from_is_err_and}
use Rattle.format.specs.Outcome.{◌>>=◌, ◌>>◌, guard}
use Rattle.format.specs.Bytes.{byte, one_of}
use Rattle.format.specs.Containers.{table}
use Rattle.typed.proofs.Header.{header_read}
use Rattle.typed.proofs.TableCases.{table_early, table_other}
use Rattle.typed.proofs.table.table.Goals as goal

pub returns-in_err-schema-clause-meets : goal.returns-in_err-schema-clause-meets
unfolding table ◌>>=◌
returns-in_err-schema-clause-meets c =
    let p = err_from_is_err_and c.from_residual.result c.from_residual.ensures.1 in
    rw (p.1, p.2, c.in_err-schema.ensures.meets)

pub returns-then-end-from-clause-meets : goal.returns-then-end-from-clause-meets
returns-then-end-from-clause-meets c =
    let t = c.in_ok-schema.ensures.meets in table_early _ _ _ _ _ t.forest _ t.read (omega arith)

pub returns-then-message-from-ne-COUNT-clause-meets : goal.returns-then-message-from-ne-COUNT-clause-meets
returns-then-message-from-ne-COUNT-clause-meets c =
    let t = c.in_ok-schema.ensures.meets in table_other _ _ _ _ _ t.forest _ t.read (omega arith) (λ e. c.if-message-from-ne-COUNT.true (sym e))

pub returns-in_err-count-clause-meets : goal.returns-in_err-count-clause-meets
unfolding table one_of byte guard ◌>>=◌ ◌>>◌
returns-in_err-count-clause-meets c =
    let p = err_from_is_err_and c.from_residual-in_err-count.result c.from_residual-in_err-count.ensures.1 in
    let t = c.in_ok-schema.ensures.meets in
    let u = rw t.took at c.in_err-count.ensures.meets in
    rw (p.1, p.2, t.read, lt-ltb _ _ c.if-end-from.false, eq-eqb _ _ (sym c.if-message-from-ne-COUNT.false), u)

pub returns-clause-meets : goal.returns-clause-meets
returns-clause-meets c =
    let t = c.in_ok-schema.ensures.meets in
    let u = c.in_ok-count.ensures.meets in
    let v = c.in_ok-count.ensures.bounds in
    let z = c.table_payload.ensures in
    z.meets _ _ (rw c.held_by-children.ensures.is at (header_read _ _ _ _ _ _ _ _ _ _ _ _ _ _ _ t (omega arith) (omega arith) u))
