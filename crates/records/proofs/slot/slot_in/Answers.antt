-- `slot_in`: the walk over the schema, the count, and the formula. Assumes nothing.
use native.Mathlib.Omega.{arith}
use Rattle.records.proofs.Answered.{table_inside, answer_missing, answer_past, answer_found}
use Rattle.records.proofs.slot.slot_in.Goals as goal

pub returns-then-end-at : goal.returns-then-end-at
returns-then-end-at c =
    λ lent row next token under short e. let h = table_inside _ c.args.brace _ lent row next token under e in absurd (omega arith)

pub returns-then-many-number : goal.returns-then-many-number
returns-then-many-number c =
    λ lent row next token under short e.
    answer_past _ c.args.brace _ lent row next token under e _ _ c.fields_at-walk.result c.count_at-total.result short c.fields_at-walk.ensures.is c.count_at-total.ensures.is _ _ c.in-Found.is (omega arith)

pub returns-in-Left : goal.returns-in-Left
returns-in-Left c =
    λ lent row next token under short e.
    answer_missing _ c.args.brace _ lent row next token under e _ _ c.fields_at-walk.result c.count_at-total.result short c.fields_at-walk.ensures.is c.count_at-total.ensures.is _ c.in-Left.is

pub returns-else-many-number : goal.returns-else-many-number
returns-else-many-number c =
    λ lent row next token under short e.
    answer_found _ c.args.brace _ lent row next token under e _ _ c.fields_at-walk.result c.count_at-total.result short c.fields_at-walk.ensures.is c.count_at-total.ensures.is _ _ c.in-Found.is (omega arith) _ c.place-before.ensures.is
