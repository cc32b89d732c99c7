-- `number_in_table`: the slot, and then its mark. Assumes nothing.
use mathlib.Core.Path.{sym, ap, ◌∙◌}
use Rattle.std.proofs.lemmas.Result.{err_from_is_err_and}
use Rattle.addresses.specs.Slots.{slot_of}
use Rattle.slots.proofs.SlotText.{text_refused, text_other, text_there_lem, slot_lies}
use Rattle.slots.proofs.text.number_in_table.Goals as goal

pub returns-in_err-slot-clause-is : goal.returns-in_err-slot-clause-is
returns-in_err-slot-clause-is c =
    let p = err_from_is_err_and c.from_residual.result c.from_residual.ensures.1 in
    rw (p.1, p.2) (text_refused _ _ _ _ _ _ (sym c.table.ensures ∙ ap slot_of c.in_err-slot.was))

pub returns-then-slot-clause-is : goal.returns-then-slot-clause-is
returns-then-slot-clause-is c =
    text_other _ _ _ _ _ _ (sym c.table.ensures ∙ ap slot_of c.in_ok-slot.was) c.if-slot.true

pub returns-clause-is : goal.returns-clause-is
returns-clause-is c =
    text_there_lem _ _ _ _ _ _ (sym c.table.ensures ∙ ap slot_of c.in_ok-slot.was) c.if-slot.false

pub returns-clause-bounds : goal.returns-clause-bounds
returns-clause-bounds c =
    slot_lies _ _ _ _ _ _ (sym c.table.ensures ∙ ap slot_of c.in_ok-slot.was)
