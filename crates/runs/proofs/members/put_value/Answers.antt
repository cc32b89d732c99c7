-- `put_value`: by the mark. Assumes nothing.
use native.Mathlib.Omega.{arith}
use Rattle.runs.proofs.MemberLaws.{value_start_text, value_start_scalar, value_token_text, value_token_scalar}
use Rattle.runs.proofs.members.put_value.Goals as goal

pub overflow_add-letters : goal.overflow_add-letters
overflow_add-letters c =
    omega (arith, value_start_text _ c.args.at c.if-mark-eq-TEXT.true, c.requires)

pub put_alone-requires : goal.put_alone-requires
put_alone-requires c =
    let e = value_start_text _ c.args.at c.if-mark-eq-TEXT.true in omega arith

pub overflow_add-payload : goal.overflow_add-payload
overflow_add-payload c =
    omega (arith, value_start_scalar _ c.args.at c.if-mark-eq-TEXT.false, c.requires)

pub put_alone-requires-else-mark-eq-TEXT : goal.put_alone-requires-else-mark-eq-TEXT
put_alone-requires-else-mark-eq-TEXT c =
    let e = value_start_scalar _ c.args.at c.if-mark-eq-TEXT.false in omega arith

pub returns-then-mark-eq-TEXT : goal.returns-then-mark-eq-TEXT
returns-then-mark-eq-TEXT c =
    rw (value_token_text _ c.args.at c.args.next c.if-mark-eq-TEXT.true) c.put_alone.ensures

pub returns-else-mark-eq-TEXT : goal.returns-else-mark-eq-TEXT
returns-else-mark-eq-TEXT c =
    rw (value_token_scalar _ c.args.at c.args.next c.if-mark-eq-TEXT.false) c.put_alone-else-mark-eq-TEXT.ensures

pub overflow_sub-next : goal.overflow_sub-next
overflow_sub-next c =
    omega (arith, value_start_text _ c.args.at c.if-mark-eq-TEXT.true, c.requires)

pub overflow_sub-next-else-mark-eq-TEXT : goal.overflow_sub-next-else-mark-eq-TEXT
overflow_sub-next-else-mark-eq-TEXT c =
    omega (arith, value_start_scalar _ c.args.at c.if-mark-eq-TEXT.false, c.requires)
