-- `by_columns`: the fields that are passed are taken in. Assumes nothing.
use mathlib.Core.Path.{sym, ◌∙◌}
use mathlib.Core.Bool.{true}
use native.Mathlib.Omega.{arith}
use Rattle.format.specs.Marks.{brace, closes}
use Rattle.scan.proofs.Stands.{stands_there, stands_other}
use Rattle.contents.proofs.Members.{fields_sum}
use Rattle.contents.proofs.Groups.{opened_there, inside, turn_on, turn_closed, turn-next}
use Rattle.contents.proofs.Verdicts.{fields_turned, table_opened, fields_start}
use Rattle.contents.proofs.layouts.by_columns.Goals as goal

pub returns-then-end-schema-clause-is : goal.returns-then-end-schema-clause-is
returns-then-end-schema-clause-is c =
    (λ wide lent row next s t. absurd (let h = opened_there (table_opened t) in omega arith))

pub loop-i-init : goal.loop-i-init
loop-i-init c =
    (c.requires, omega arith, (λ wide lent row next s t. fields_start t))

pub returns-then-stands-clause-is : goal.returns-then-stands-clause-is
unfolding closes
returns-then-stands-clause-is c =
    (λ wide lent row next s t.
    let m = c.args.message.now in
    let r = c.loop-i.invariant.2 wide lent row next s t in
    let u = fields_turned m lent c.args.count r c.after_key-from.result c.field-walk.result t.narrow t.few t.short t.inside c.after_key-from.ensures c.field-walk.ensures.is in
    (turn_closed m lent 7 true r (fields_sum m c.args.count) c.field-walk.result u (stands_there m c.field-walk.result.next (closes brace) (sym c.stands.ensures ∙ c.if-stands.true)).1).1.1)

pub returns-then-next-i-clause-is : goal.returns-then-next-i-clause-is
returns-then-next-i-clause-is c =
    (λ wide lent row next s t.
    let m = c.args.message.now in
    let r = c.loop-i.invariant.2 wide lent row next s t in
    let u = fields_turned m lent c.args.count r c.after_key-from.result c.field-walk.result t.narrow t.few t.short t.inside c.after_key-from.ensures c.field-walk.ensures.is in
    let d = turn_on m lent 7 true r (fields_sum m c.args.count) c.field-walk.result u in absurd (omega arith))

pub loop-i-preserved : goal.loop-i-preserved
unfolding closes
loop-i-preserved c = (
  c.field-walk.ensures.bounds.near,
  (let p = c.field-walk.ensures.bounds.low in let q = c.loop-i.invariant.1 in omega arith),
  (λ wide lent row next s t.
      let m = c.args.message.now in
      let r = c.loop-i.invariant.2 wide lent row next s t in
      let u = fields_turned m lent c.args.count r c.after_key-from.result c.field-walk.result t.narrow t.few t.short t.inside c.after_key-from.ensures c.field-walk.ensures.is in
      turn-next m lent 7 true r (fields_sum m c.args.count) c.field-walk.result u (stands_other m c.field-walk.result.next (closes brace) (sym c.stands.ensures ∙ c.if-stands.false))),
)

pub returns-clause-is : goal.returns-clause-is
returns-clause-is c =
    (λ wide lent row next s t.
    let r = c.loop-i.invariant.2 wide lent row next s t in
    let h = inside c.args.message.now lent 7 true r in absurd (omega arith))
