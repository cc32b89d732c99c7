-- `slot`: as the message, the table and the leaf are found. Assumes nothing.
use mathlib.Core.Path.{◌∙◌}
use native.Mathlib.Omega.{arith}
use Rattle.panel.proofs.Readings.{accepted, read_refused, refused_fits}
use Rattle.panel.proofs.Slots.{refused_slot, missing_slot, refused_leaf, found_leaf, slot_there, table_here}
use Rattle.panel.proofs.slot.Goals as goal

pub packed-requires : goal.packed-requires
packed-requires c =
    let e = c.number.ensures in
    let h = refused_fits _ _ _ c.in-Err.ensures in (omega arith, omega arith, omega arith)

pub returns-in-Err : goal.returns-in-Err
returns-in-Err c =
    c.packed.ensures ∙ rw c.number.ensures (refused_slot _ _ _ _ _ _ (read_refused _ _ _ c.in-Err.ensures))

pub table_at-requires : goal.table_at-requires
table_at-requires c =
    let a = accepted _ _ c.in_default.ensures in record { tokens = a.forest; read = a.read }

pub returns-in_default-table_at : goal.returns-in_default-table_at
returns-in_default-table_at c =
    let a = accepted _ _ c.in_default.ensures in
    c.packed-in_default-table_at.ensures ∙ rw c.number-in_default-table_at.ensures (missing_slot _ _ _ _ a.forest a.read (c.in_default-table_at.ensures a.forest a.read))

pub slot_in-requires : goal.slot_in-requires
slot_in-requires c =
    let a = accepted _ _ c.in_default.ensures in
    table_here _ _ a.forest a.read _ _ _ (c.in-Some.ensures a.forest a.read)

pub packed-requires-in-Ok : goal.packed-requires-in-Ok
packed-requires-in-Ok c =
    let a = accepted _ _ c.in_default.ensures in
    let h = c.in-Some.ensures a.forest a.read in
    let e = slot_there _ _ _ _ a.forest a.read _ _ _ h _ c.in-Ok.ensures in
    let l = found_leaf _ _ _ _ a.forest a.read h.table h.picked _ _ e in
    (omega arith, l.0, l.1)

pub returns-in-Err-slot_in : goal.returns-in-Err-slot_in
returns-in-Err-slot_in c =
    let a = accepted _ _ c.in_default.ensures in
    let h = c.in-Some.ensures a.forest a.read in
    let e = slot_there _ _ _ _ a.forest a.read _ _ _ h _ c.in-Err-slot_in.ensures in
    c.packed-in-Err-slot_in.ensures ∙ rw c.number-in-Err-slot_in.ensures (refused_leaf _ _ _ _ a.forest a.read h.table h.picked _ _ e).1

pub returns-in-Ok : goal.returns-in-Ok
returns-in-Ok c =
    let a = accepted _ _ c.in_default.ensures in
    let h = c.in-Some.ensures a.forest a.read in
    let e = slot_there _ _ _ _ a.forest a.read _ _ _ h _ c.in-Ok.ensures in
    c.packed-in-Ok.ensures ∙ (found_leaf _ _ _ _ a.forest a.read h.table h.picked _ _ e).2
