-- `in_record`: by rows or by columns. Assumes nothing.
use native.Mathlib.Omega.{arith}
use Rattle.format.specs.Rows.{rows_in}
use Rattle.addresses.proofs.SlotCases.{by_rows_at, by_columns_at}
use Rattle.addresses.proofs.slots.in_record.Goals as goal

pub overflow_add-row : goal.overflow_add-row
unfolding rows_in
overflow_add-row c =
    omega (arith, c.requires.1)

pub returns-then-t : goal.returns-then-t
unfolding rows_in
returns-then-t c =
    λ r k. by_rows_at _ _ _ _ _ _ r k _ _ (c.load-t.ensures.there (omega (arith, c.requires.1))) (c.load-o.ensures.there c.requires.2) (omega arith) _ _ _ (c.load-record.ensures.there c.requires.1) c.if-t.true c.start-from.ensures c.inside.ensures

pub returns : goal.returns
unfolding rows_in
returns c =
    λ r k. by_columns_at _ _ _ _ _ _ r k _ _ (c.load-t.ensures.there (omega (arith, c.requires.1))) (c.load-o.ensures.there c.requires.2) (omega arith) _ _ _ (c.load-f.ensures.there c.requires.3) c.if-t.false _ (rw (← c.saturating_mul.ensures) c.saturating_add-column.ensures) c.start-from-2.ensures c.inside-2.ensures
