-- `fields_at`: a walk over each field, and what is found in it. Assumes nothing.
use mathlib.Core.Path.{sym, ◌∙◌}
use mathlib.Core.Bool.{true}
use native.Mathlib.Omega.{arith}
use Rattle.format.specs.Marks.{brace, closes}
use Rattle.scan.proofs.Stands.{stands_there, stands_other}
use Rattle.contents.proofs.Groups.{opened_there}
use Rattle.leaf_search.proofs.Turns.{inside}
use Rattle.records.proofs.FieldTurns.{latest_within, span_within, fields_opened, fields_start, fields_on, fields_closed, fields_next}
use Rattle.records.proofs.fields.fields_at.Goals as goal

pub returns-then-end-schema-clause-is : goal.returns-then-end-schema-clause-is
returns-then-end-schema-clause-is c =
    (λ lent row next s e narrow. let h = opened_there (fields_opened e) in absurd (omega arith))

pub loop-i-init : goal.loop-i-init
loop-i-init c =
    (record { within = omega arith; near = tt }, omega arith, omega arith, (λ lent row next s e narrow. fields_start _ (fields_opened e)))

pub overflow_add-next : goal.overflow_add-next
unfolding closes
overflow_add-next c =
    let h = (stands_there c.args.message.now c.kind-walk.result.next (closes brace) (sym c.stands.ensures ∙ c.if-stands.true)).0 in omega arith

pub returns-then-stands-clause-is : goal.returns-then-stands-clause-is
unfolding closes
returns-then-stands-clause-is c =
    (λ lent row next s e narrow.
    let r = c.loop-i.invariant.3 lent row next s e narrow in
    let d = fields_closed r narrow c.after_key-from.result c.after_key-from.ensures c.kind-walk.result c.kind-walk.ensures.is (stands_there c.args.message.now c.kind-walk.result.next (closes brace) (sym c.stands.ensures ∙ c.if-stands.true)).1 in
    record { ended = sym d.0; total = d.1.0; spot = rw (c.newer-field.ensures, c.newer-span.ensures) d.1.1 })

pub returns-then-stands-clause-bounds : goal.returns-then-stands-clause-bounds
unfolding closes
returns-then-stands-clause-bounds c =
    (let k = c.kind-walk.ensures.bounds in
    let h = (stands_there c.args.message.now c.kind-walk.result.next (closes brace) (sym c.stands.ensures ∙ c.if-stands.true)).0 in
    let v = c.loop-i.invariant in
    record {
      inside = omega arith;
      wide = k.within;
      near = k.near;
      field = rw c.newer-field.ensures (latest_within c.loop-i.seen _ _ _ v.0.within v.1);
      span = rw c.newer-span.ensures (span_within c.loop-i.seen _ c.loop-i.wide _ _ k.within v.2);
    })

pub returns-then-after-i-clause-is : goal.returns-then-after-i-clause-is
returns-then-after-i-clause-is c =
    (λ lent row next s e narrow.
    let r = c.loop-i.invariant.3 lent row next s e narrow in
    let d = fields_on r narrow c.after_key-from.result c.after_key-from.ensures c.kind-walk.result c.kind-walk.ensures.is in absurd (omega arith))

pub loop-i-preserved : goal.loop-i-preserved
unfolding closes
loop-i-preserved c =
    let k = c.kind-walk.ensures.bounds in
    let v = c.loop-i.invariant in (
      record { within = k.within; near = k.near },
      rw c.newer-field.ensures (latest_within c.loop-i.seen _ _ _ v.0.within v.1),
      rw c.newer-span.ensures (span_within c.loop-i.seen _ c.loop-i.wide _ _ k.within v.2),
      (λ lent row next s e narrow.
          let r = v.3 lent row next s e narrow in
          rw (c.newer-field.ensures, c.newer-span.ensures) (fields_next r narrow c.after_key-from.result c.after_key-from.ensures c.kind-walk.result c.kind-walk.ensures.is (stands_other c.args.message.now c.kind-walk.result.next (closes brace) (sym c.stands.ensures ∙ c.if-stands.false)))),
    )

pub returns-clause-is : goal.returns-clause-is
returns-clause-is c =
    (λ lent row next s e narrow.
    let r = c.loop-i.invariant.3 lent row next s e narrow in
    let h = inside _ _ _ true r in absurd (omega arith))
