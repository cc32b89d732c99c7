-- `group_start`: depth and row, and for a fixed array the byte after the mark. Assumes nothing.
use native.Mathlib.Omega.{arith}
use Rattle.kinds.proofs.Cases.{nested_deep, group_no_row, record_opens, array_early, array_typed, array_opens}
use Rattle.kinds.proofs.Sofar.{sofar_start}
use Rattle.kinds.proofs.starts.group_start.Goals as goal

pub returns-then-levels-eq0-clause-meets : goal.returns-then-levels-eq0-clause-meets
returns-then-levels-eq0-clause-meets c =
    λ offset ancestry words h. nested_deep _ _ _ _ _ _ c.if-levels-eq0.true

pub returns-then-lent-row-clause-meets : goal.returns-then-lent-row-clause-meets
returns-then-lent-row-clause-meets c =
    λ offset ancestry words h. group_no_row _ _ _ _ _ (omega arith) _ c.if-lent-row.true

pub returns-then-brace-clause-meets : goal.returns-then-brace-clause-meets
returns-then-brace-clause-meets c =
    λ offset ancestry words h. rw c.if-brace.true (sofar_start _ _ _ _ _ _ h (record_opens _ _ _ _ _ (omega arith) c.if-lent-row.false))

pub returns-then-end-next-clause-meets : goal.returns-then-end-next-clause-meets
returns-then-end-next-clause-meets c =
    λ offset ancestry words h. rw c.if-brace.false (array_early _ _ _ _ _ (omega arith) c.if-lent-row.false c.if-end-next.true)

pub returns-then-message-next-eq-TYPE-clause-meets : goal.returns-then-message-next-eq-TYPE-clause-meets
returns-then-message-next-eq-TYPE-clause-meets c =
    λ offset ancestry words h. rw c.if-brace.false (array_typed _ _ _ _ _ (omega arith) c.if-lent-row.false c.if-end-next.false c.if-message-next-eq-TYPE.true)

pub returns-clause-meets : goal.returns-clause-meets
returns-clause-meets c =
    λ offset ancestry words h.
    rw c.if-brace.false (sofar_start _ _ _ _ _ _ h (array_opens _ _ _ _ _ (omega arith) c.if-lent-row.false c.if-end-next.false c.if-message-next-eq-TYPE.false))
