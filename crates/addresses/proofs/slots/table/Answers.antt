-- `table`: the table row, its schema, the leaf, the indexes, and the place. Assumes nothing.
use mathlib.Core.Path.{sym, ap, ◌∙◌}
use native.Mathlib.Omega.{arith}
use Rattle.ways.proofs.Exits.{passed_on}
use Rattle.format.specs.Answers.{found}
use Rattle.format.specs.Rows.{rows_in}
use Rattle.ways.proofs.Along.{went}
use Rattle.addresses.proofs.SlotCases.{table_unfit, table_schemaless, table_leafless, table_refused, table_there}
use Rattle.addresses.proofs.slots.table.Goals as goal

pub returns-in_err-stop : goal.returns-in_err-stop
returns-in_err-stop c =
    rw (passed_on _ _ c.from_residual.ensures.1) (table_unfit _ _ _ _ _ _ (rw c.count.ensures at (sym c.along.ensures) ∙ ap found c.in_err-stop.was))

pub overflow_add-row : goal.overflow_add-row
unfolding rows_in
overflow_add-row c =
    let f = went _ _ _ _ c.along.ensures _ c.in_ok-stop.was in omega (arith, f.before, c.count.ensures)

pub along_child-requires : goal.along_child-requires
along_child-requires c =
    let f = went _ _ _ _ c.along.ensures _ c.in_ok-stop.was in omega (arith, f.inside, c.count.ensures)

pub returns-in_err-from : goal.returns-in_err-from
returns-in_err-from c =
    let e = rw c.count.ensures at (sym c.along.ensures) ∙ ap found c.in_ok-stop.was in
    rw (passed_on _ _ c.from_residual-in_err-from.ensures.1) (table_schemaless _ _ _ _ _ _ e _ (sym c.along_child.ensures ∙ ap found c.in_err-from.was))

pub overflow_add-row-2 : goal.overflow_add-row-2
unfolding rows_in
overflow_add-row-2 c =
    let f = went _ _ _ _ c.along.ensures _ c.in_ok-stop.was in omega (arith, f.before, c.count.ensures)

pub overflow_add-row-3 : goal.overflow_add-row-3
unfolding rows_in
overflow_add-row-3 c =
    let f = went _ _ _ _ c.along.ensures _ c.in_ok-stop.was in omega (arith, f.before, c.count.ensures)

pub field-requires : goal.field-requires
field-requires c =
    let f = went _ _ _ _ c.along.ensures _ c.in_ok-stop.was in
    let g = went _ _ _ _ c.along_child.ensures _ c.in_ok-from.was in
    (omega (arith, g.before, f.inside, c.count.ensures), omega (arith, g.link, g.inside, f.inside, c.count.ensures))

pub returns-in_err-top : goal.returns-in_err-top
returns-in_err-top c =
    let e = rw c.count.ensures at (sym c.along.ensures) ∙ ap found c.in_ok-stop.was in
    let q = sym c.along_child.ensures ∙ ap found c.in_ok-from.was in
    rw (passed_on _ _ c.from_residual-in_err-top.ensures.1) (table_leafless _ _ _ _ _ _ e _ q _ (sym c.field.ensures.is ∙ ap found c.in_err-top.was))

pub positioned-requires : goal.positioned-requires
positioned-requires c =
    let f = went _ _ _ _ c.along.ensures _ c.in_ok-stop.was in (omega (arith, f.before, c.count.ensures), omega (arith, f.link, f.inside, c.count.ensures))

pub returns-in_err-number : goal.returns-in_err-number
returns-in_err-number c =
    let e = rw c.count.ensures at (sym c.along.ensures) ∙ ap found c.in_ok-stop.was in
    let q = sym c.along_child.ensures ∙ ap found c.in_ok-from.was in
    let s = sym c.field.ensures.is ∙ ap found c.in_ok-top.was in
    rw (passed_on _ _ c.from_residual-in_err-number.ensures.1) (table_refused _ _ _ _ _ _ e _ q _ s _ (rw c.in_err-number.was at c.positioned.ensures))

pub in_record-requires : goal.in_record-requires
in_record-requires c =
    let f = went _ _ _ _ c.along.ensures _ c.in_ok-stop.was in
    let g = went _ _ _ _ c.along_child.ensures _ c.in_ok-from.was in
    let b = rw c.in_ok-top.was at c.field.ensures.bounds in
    (c.requires, omega (arith, g.before, f.inside, c.count.ensures), b.0, b.1)

pub returns : goal.returns
returns c =
    let e = rw c.count.ensures at (sym c.along.ensures) ∙ ap found c.in_ok-stop.was in
    let q = sym c.along_child.ensures ∙ ap found c.in_ok-from.was in
    let s = sym c.field.ensures.is ∙ ap found c.in_ok-top.was in
    let p = rw c.in_ok-number.was at c.positioned.ensures in
    c.in_record.ensures _ p.number ∙ sym (table_there _ _ _ _ _ _ e _ q _ s _ p)
