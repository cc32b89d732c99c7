-- The cycle of the kinds of records and fixed arrays: each member by where it begins, up to the closing mark. Assumes nothing.
use mathlib.Core.Path.{◌≡◌, refl, sym, ◌∙◌}
use mathlib.Core.Bool.{true}
use native.Mathlib.Omega.{arith}
use Rattle.std.proofs.lemmas.Result.{err_from_is_err_and}
use Rattle.format.specs.Marks.{opening_of, closes}
use Rattle.laws.proofs.Order.{group_kind_lem}
use Rattle.scan.specs.Stands.{stands}
use Rattle.scan.proofs.Stands.{stands_there}
use Rattle.rows.specs.Row.{ancestry_of}
use Rattle.kinds.specs.Answers.{member_at}
use Rattle.kinds.proofs.Cases.{member_early}
use Rattle.schemas.proofs.Loop.{loop_start, loop_fault, loop_read, loop_on, loop_end, Member, member_whole, member_opens, opens_wrong}
use Rattle.schemas.proofs.groups.+array_kinds_group_kinds_opened_kinds_record_kinds.Goals as goal
use Rattle.schemas.proofs.groups.+array_kinds_group_kinds_opened_kinds_record_kinds.Goals.{group_kinds-in-Whole, group_kinds-in-Opens+in_ok-read-in-Opens}

pub group_kinds-loop-start-init : goal.group_kinds-loop-start-init
group_kinds-loop-start-init t c =
    (loop_start _ _ _ _ _ _ _ _ _ _ (omega arith) (omega arith) (omega arith) (omega arith), refl)

pub group_kinds-returns-in_err-start-clause-meets : goal.group_kinds-returns-in_err-start-clause-meets
group_kinds-returns-in_err-start-clause-meets t c =
    let p = err_from_is_err_and c.from_residual.result c.from_residual.ensures.1 in
    rw (p.1, p.2) (loop_fault _ _ _ _ _ _ _ _ _ _ _ _ c.loop-start.invariant.0 c.in_err-start.ensures.meets)

pub group_kinds-returns-in_err-read-in-Opens-clause-meets : goal.group_kinds-returns-in_err-read-in-Opens-clause-meets
group_kinds-returns-in_err-read-in-Opens-clause-meets t c =
    let p = err_from_is_err_and c.from_residual-in_err-read-in-Opens.result c.from_residual-in_err-read-in-Opens.ensures.1 in
    let s = c.in_ok-start in
    let e = opens_wrong _ _ _ _ _ _ _ _ _ (member_at c.args.message.now c.args.lent c.args.levels (opening_of c.args.brace)) _ _ _ s.start _ _ c.in-Opens.is s.ensures.meets c.in_err-read-in-Opens.ensures.meets in
    rw (p.1, p.2) (loop_fault _ _ _ _ _ _ _ _ _ _ _ _ c.loop-start.invariant.0 e)

pub group_kinds-returns-then-stands-clause-meets : goal.group_kinds-returns-then-stands-clause-meets
group_kinds-returns-then-stands-clause-meets t c =
    let o = opening_of c.args.brace in
    let s = c.in_ok-start in
    let member : Member c.args.message.now c.args.lent (member_at c.args.message.now c.args.lent c.args.levels o) c.loop-start.read.at c.loop-start.read.row c.loop-start.read.offset (ancestry_of c.held_by-children.result) c.loop-start.rows c.match-start.rows c.match-start.read = elim c.match-start.branch [
      | group_kinds-in-Whole w ↦ rw (w.rows-is, w.read-is) (member_whole _ _ _ _ _ _ _ _ _ _ _ s.start w.in-Whole.is c.member_start.auto.rows s.ensures.meets s.ensures.bounds)
      | group_kinds-in-Opens+in_ok-read-in-Opens w ↦ rw (w.rows-is, w.read-is) (member_opens _ _ _ _ _ _ _ _ _ _ _ _ _ _ _ s.start w.in-Opens.is (w.opened_kinds.auto.rows ∙ c.member_start.auto.rows) s.ensures.meets s.ensures.bounds w.in_ok-read-in-Opens.ensures.meets w.in_ok-read-in-Opens.ensures.bounds)
    ] in
    let after = loop_read _ _ _ _ _ _ _ _ _ _ _ _ _ _ c.loop-start.invariant.0 member.read member.bounds in
    let e : stands c.args.message.now c.match-start.read.at (closes o) ≡ true = rw (← c.closing_mark-closing.ensures) (sym c.stands.ensures ∙ c.if-stands.true) in
    loop_end _ _ _ _ _ _ _ _ _ _ after e (group_kind_lem o).not_key _ c.held_by-children.ensures.is _ c.put_group.ensures

pub group_kinds-returns-then-stands-clause-bounds : goal.group_kinds-returns-then-stands-clause-bounds
group_kinds-returns-then-stands-clause-bounds t c =
    let o = opening_of c.args.brace in
    let s = c.in_ok-start in
    let member : Member c.args.message.now c.args.lent (member_at c.args.message.now c.args.lent c.args.levels o) c.loop-start.read.at c.loop-start.read.row c.loop-start.read.offset (ancestry_of c.held_by-children.result) c.loop-start.rows c.match-start.rows c.match-start.read = elim c.match-start.branch [
      | group_kinds-in-Whole w ↦ rw (w.rows-is, w.read-is) (member_whole _ _ _ _ _ _ _ _ _ _ _ s.start w.in-Whole.is c.member_start.auto.rows s.ensures.meets s.ensures.bounds)
      | group_kinds-in-Opens+in_ok-read-in-Opens w ↦ rw (w.rows-is, w.read-is) (member_opens _ _ _ _ _ _ _ _ _ _ _ _ _ _ _ s.start w.in-Opens.is (w.opened_kinds.auto.rows ∙ c.member_start.auto.rows) s.ensures.meets s.ensures.bounds w.in_ok-read-in-Opens.ensures.meets w.in_ok-read-in-Opens.ensures.bounds)
    ] in
    let after = loop_read _ _ _ _ _ _ _ _ _ _ _ _ _ _ c.loop-start.invariant.0 member.read member.bounds in
    let p = after.bounds in
    let i = (stands_there _ _ _ (sym c.stands.ensures ∙ c.if-stands.true)).0 in
    omega arith

pub group_kinds-loop-start-preserved : goal.group_kinds-loop-start-preserved
group_kinds-loop-start-preserved t c =
    let o = opening_of c.args.brace in
    let s = c.in_ok-start in
    let member : Member c.args.message.now c.args.lent (member_at c.args.message.now c.args.lent c.args.levels o) c.loop-start.read.at c.loop-start.read.row c.loop-start.read.offset (ancestry_of c.held_by-children.result) c.loop-start.rows c.match-start.rows c.match-start.read = elim c.match-start.branch [
      | group_kinds-in-Whole w ↦ rw (w.rows-is, w.read-is) (member_whole _ _ _ _ _ _ _ _ _ _ _ s.start w.in-Whole.is c.member_start.auto.rows s.ensures.meets s.ensures.bounds)
      | group_kinds-in-Opens+in_ok-read-in-Opens w ↦ rw (w.rows-is, w.read-is) (member_opens _ _ _ _ _ _ _ _ _ _ _ _ _ _ _ s.start w.in-Opens.is (w.opened_kinds.auto.rows ∙ c.member_start.auto.rows) s.ensures.meets s.ensures.bounds w.in_ok-read-in-Opens.ensures.meets w.in_ok-read-in-Opens.ensures.bounds)
    ] in
    let after = loop_read _ _ _ _ _ _ _ _ _ _ _ _ _ _ c.loop-start.invariant.0 member.read member.bounds in
    (loop_on _ _ _ _ _ _ _ _ _ _ after (rw (← c.closing_mark-closing.ensures) (sym c.stands.ensures ∙ c.if-stands.false)) (λ h. member_early _ _ _ _ _ _ h), member.kept ∙ c.loop-start.invariant.1)

pub opened_kinds-returns-then-brace : goal.opened_kinds-returns-then-brace
opened_kinds-returns-then-brace t c =
    let e = c.record_kinds.ensures in rw c.if-brace.true (record { meets = e.meets; bounds = e.bounds })

pub opened_kinds-returns-else-brace : goal.opened_kinds-returns-else-brace
opened_kinds-returns-else-brace t c =
    let e = c.array_kinds.ensures in rw c.if-brace.false (record { meets = e.meets; bounds = e.bounds })
