-- The walk over a schema: a kind, and the members of a schema or a fixed array. Assumes nothing.
use Prim.Native.Nat.{suc, ◌-◌}
use mathlib.Core.Path.{◌≡◌, sym, ◌∙◌}
use native.Mathlib.Omega.{arith}
use Rattle.scan.proofs.Stands.{stands_there, stands_other}
use Rattle.columns.proofs.Leaves.{kind_bracket, kind_brace}
use Rattle.contents.proofs.Groups.{kind_there, opened, not_nested, opened_there}
use Rattle.leaf_search.proofs.Turns.{inside, group_start, group_on, group_closed, group_next}
use Rattle.leaf_search.proofs.kinds.+group_kind.Goals as goal

pub group-returns-then-levels-eq0-clause-is : goal.group-returns-then-levels-eq0-clause-is
group-returns-then-levels-eq0-clause-is t c =
    (λ lent row next f l e i. absurd (not_nested _ _ _ _ _ _ _ _ c.if-levels-eq0.true e))

pub group-returns-then-message-at-clause-is : goal.group-returns-then-message-at-clause-is
group-returns-then-message-at-clause-is t c =
    (λ lent row next f l e i.
    let a = c.args in
    let z = c.if-levels-eq0.false in
    let q : a.levels ≡ suc (a.levels - 1) = omega arith in
    let h = opened_there (opened _ _ _ (a.levels - 1) _ _ _ _ _ q e) in absurd (omega arith))

pub group-loop-i-init : goal.group-loop-i-init
group-loop-i-init t c = (
  c.requires,
  omega arith,
  (λ lent row next f l e i.
      let a = c.args in
      let z = c.if-levels-eq0.false in
      let q : a.levels ≡ suc (a.levels - 1) = omega arith in
      group_start _ _ (opened _ _ _ (a.levels - 1) _ _ _ _ _ q e)),
)

pub group-overflow_add-after : goal.group-overflow_add-after
group-overflow_add-after t c =
    let h = (stands_there c.args.message.now c.kind-walk.result.next c.closing_mark-closing.result (sym c.stands.ensures ∙ c.if-stands.true)).0 in omega arith

pub group-returns-then-stands-clause-is : goal.group-returns-then-stands-clause-is
group-returns-then-stands-clause-is t c =
    (λ lent row next f l e i.
    let r = c.loop-i.invariant.2 lent row next f l e i in
    let w = c.kind-walk in
    let d = group_closed c.args.brace r i _ c.after_key-from.ensures w.result w.ensures.is ((stands_there c.args.message.now c.kind-walk.result.next c.closing_mark-closing.result (sym c.stands.ensures ∙ c.if-stands.true)).1 ∙ c.closing_mark-closing.ensures) in
    record { ended = sym d.0; onward = d.1.0; sought = d.1.1 })

pub group-returns-then-next-i-clause-is : goal.group-returns-then-next-i-clause-is
group-returns-then-next-i-clause-is t c =
    (λ lent row next f l e i.
    let r = c.loop-i.invariant.2 lent row next f l e i in
    let w = c.kind-walk in
    let d = group_on c.args.brace r i _ c.after_key-from.ensures w.result w.ensures.is in
    absurd (omega arith))

pub group-loop-i-preserved : goal.group-loop-i-preserved
group-loop-i-preserved t c = (
  record { within = c.kind-walk.ensures.bounds.within; near = c.kind-walk.ensures.bounds.near },
  (let p = c.loop-i.invariant.1 in let q = c.kind-walk.ensures.bounds.on in omega arith),
  (λ lent row next f l e i.
      let r = c.loop-i.invariant.2 lent row next f l e i in
      let w = c.kind-walk in
      group_next c.args.brace r i _ c.after_key-from.ensures w.result w.ensures.is (λ h e. stands_other c.args.message.now c.kind-walk.result.next c.closing_mark-closing.result (sym c.stands.ensures ∙ c.if-stands.false) h (e ∙ sym c.closing_mark-closing.ensures))),
)

pub group-returns-clause-is : goal.group-returns-clause-is
group-returns-clause-is t c =
    (λ lent row next f l e i.
    let r = c.loop-i.invariant.2 lent row next f l e i in
    let h = inside _ _ _ c.args.brace r in
    absurd (omega arith))

pub kind-returns-then-mark-eq-ARRAY-clause-is : goal.kind-returns-then-mark-eq-ARRAY-clause-is
kind-returns-then-mark-eq-ARRAY-clause-is t c =
    (λ lent row next f l e. c.group.ensures.is lent row next f l (sym (kind_bracket _ lent _ _ row (kind_there _ _ _ _ _ _ e) (sym c.byte_at-mark.ensures ∙ c.if-mark-eq-ARRAY.true)) ∙ e))

pub kind-returns-then-mark-eq-OBJECT-clause-is : goal.kind-returns-then-mark-eq-OBJECT-clause-is
kind-returns-then-mark-eq-OBJECT-clause-is t c =
    (λ lent row next f l e. c.group-then-mark-eq-OBJECT.ensures.is lent row next f l (sym (kind_brace _ lent _ _ row (kind_there _ _ _ _ _ _ e) (sym c.byte_at-mark.ensures ∙ c.if-mark-eq-OBJECT.true)) ∙ e))
