-- The walk over a schema: a kind, and the members of a schema or a fixed array. Assumes nothing.
use Prim.Native.Nat.{suc, ◌-◌, ◌<◌}
use mathlib.Core.Path.{◌≡◌, sym, ◌∙◌}
use native.Mathlib.Omega.{arith}
use lib.ListN.{length}
use Rattle.scan.proofs.Stands.{stands_there, stands_other}
use Rattle.columns.proofs.Leaves.{kind_bracket, kind_brace}
use Rattle.contents.proofs.Members.{columns_sum}
use Rattle.contents.proofs.Groups.{kind_there, opened, not_nested, opened_there, group_start, inside, group_turned, turn_on, turn_closed, turn-next}
use Rattle.contents.proofs.walk.+group_kind.Goals as goal

pub group-returns-then-levels-eq0-clause-is : goal.group-returns-then-levels-eq0-clause-is
group-returns-then-levels-eq0-clause-is t c =
    (λ lent row next f l e i. absurd (not_nested _ _ _ _ _ _ _ _ c.if-levels-eq0.true e))

pub group-returns-then-message-at-clause-is : goal.group-returns-then-message-at-clause-is
group-returns-then-message-at-clause-is t c =
    (λ lent row next f l e i.
    let a = c.args in
    let z = c.if-levels-eq0.false in
    let q : a.levels ≡ suc (a.levels - 1) = omega arith in
    let h = opened_there (opened _ _ _ (a.levels - 1) _ _ _ _ _ q e) in absurd (omega arith))

pub group-loop-i-init : goal.group-loop-i-init
group-loop-i-init t c = (
  c.requires.near,
  omega arith,
  (λ lent row next f l e i.
      let a = c.args in
      let z = c.if-levels-eq0.false in
      let q : a.levels ≡ suc (a.levels - 1) = omega arith in
      group_start (opened _ _ _ (a.levels - 1) _ _ _ _ _ q e) _ _ _ _),
)

pub group-overflow_add-whole : goal.group-overflow_add-whole
group-overflow_add-whole t c =
    let h : c.kind-walk.result.next < length c.args.message.now = (stands_there c.args.message.now c.kind-walk.result.next c.closing_mark-closing.result (sym c.stands.ensures ∙ c.if-stands.true)).0 in omega arith

pub group-returns-then-stands-clause-is : goal.group-returns-then-stands-clause-is
group-returns-then-stands-clause-is t c =
    (λ lent row next f l e i.
    let r = c.loop-i.invariant.2 lent row next f l e i in
    let w = c.kind-walk in
    let u = group_turned c.args.message.now lent (c.args.levels - 1) c.args.brace _ _ r _ _ i c.after_key-from.ensures w.ensures.is in
    let d = turn_closed c.args.message.now lent (c.args.levels - 1) c.args.brace r (columns_sum _ _ _) _ u ((stands_there c.args.message.now c.kind-walk.result.next c.closing_mark-closing.result (sym c.stands.ensures ∙ c.if-stands.true)).1 ∙ c.closing_mark-closing.ensures) in
    record { ended = sym d.0; onward = d.1.0; lowest = d.1.1 })

pub group-returns-then-next-i-clause-is : goal.group-returns-then-next-i-clause-is
group-returns-then-next-i-clause-is t c =
    (λ lent row next f l e i.
    let r = c.loop-i.invariant.2 lent row next f l e i in
    let w = c.kind-walk in
    let u = group_turned c.args.message.now lent (c.args.levels - 1) c.args.brace _ _ r _ _ i c.after_key-from.ensures w.ensures.is in
    let d = turn_on c.args.message.now lent (c.args.levels - 1) c.args.brace r (columns_sum _ _ _) _ u in
    absurd (omega arith))

pub group-loop-i-preserved : goal.group-loop-i-preserved
group-loop-i-preserved t c = (
  c.kind-walk.ensures.bounds.near,
  (let p = c.kind-walk.ensures.bounds.low in let q = c.loop-i.invariant.1 in omega arith),
  (λ lent row next f l e i.
      let r = c.loop-i.invariant.2 lent row next f l e i in
      let w = c.kind-walk in
      let u = group_turned c.args.message.now lent (c.args.levels - 1) c.args.brace _ _ r _ _ i c.after_key-from.ensures w.ensures.is in
      turn-next c.args.message.now lent (c.args.levels - 1) c.args.brace r (columns_sum _ _ _) _ u (λ h e. stands_other c.args.message.now c.kind-walk.result.next c.closing_mark-closing.result (sym c.stands.ensures ∙ c.if-stands.false) h (e ∙ sym c.closing_mark-closing.ensures))),
)

pub group-returns-clause-is : goal.group-returns-clause-is
group-returns-clause-is t c =
    (λ lent row next f l e i.
    let r = c.loop-i.invariant.2 lent row next f l e i in
    let h = inside c.args.message.now lent (c.args.levels - 1) c.args.brace r in
    absurd (omega arith))

pub kind-returns-then-mark-eq-ARRAY-clause-is : goal.kind-returns-then-mark-eq-ARRAY-clause-is
kind-returns-then-mark-eq-ARRAY-clause-is t c =
    (λ lent row next f l e. c.group.ensures.is lent row next f l (sym (kind_bracket _ lent _ _ row (kind_there _ _ _ _ _ _ e) (sym c.byte_at-mark.ensures ∙ c.if-mark-eq-ARRAY.true)) ∙ e))

pub kind-returns-then-mark-eq-OBJECT-clause-is : goal.kind-returns-then-mark-eq-OBJECT-clause-is
kind-returns-then-mark-eq-OBJECT-clause-is t c =
    (λ lent row next f l e. c.group-then-mark-eq-OBJECT.ensures.is lent row next f l (sym (kind_brace _ lent _ _ row (kind_there _ _ _ _ _ _ e) (sym c.byte_at-mark.ensures ∙ c.if-mark-eq-OBJECT.true)) ∙ e))
