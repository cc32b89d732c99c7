-- The cycle of `container`, `member`, `counted` and `plain`: each call has a level less, or is nearer to where a level is taken. Assumes nothing.
use native.Mathlib.Omega.{arith}
use native.Mathlib.Nat.{add-zero}
use Rattle.std.proofs.lemmas.Result.{err_from_is_err_and}
use Rattle.format.specs.Grammars.{new}
use Rattle.format.specs.Marks.{opening_of}
use Rattle.format.specs.Sequences.{spaced}
use Rattle.items.specs.Headers.{member_of}
use Rattle.seek.proofs.Back.{no_fault}
use Rattle.seek.proofs.Loops.{some_start, some_step, some_stop, some_end, until_start, until_early, until_end, until_stop, until_step}
use Rattle.seek.proofs.Members.{closed_walks, member_past, member_opens}
use Rattle.seek.proofs.nest.+container_counted_member_plain.Goals as goal

pub container-returns-in-Counted-clause-meets : goal.container-returns-in-Counted-clause-meets
container-returns-in-Counted-clause-meets t c =
    let h = rw c.in-Counted.is at c.in_ok-header_at.ensures.meets in
    let v = c.counted in rw (h new (opening_of c.args.brace)) (closed_walks v.result _ _ _ _ 0 _ _ _ (λ f end e. rw (add-zero end) (v.ensures.meets f end e)))

pub container-returns-in-Plain-clause-meets : goal.container-returns-in-Plain-clause-meets
container-returns-in-Plain-clause-meets t c =
    let h = rw c.in-Plain.is at c.in_ok-header_at.ensures.meets in
    let v = c.plain in rw (h new (opening_of c.args.brace)) (closed_walks v.result _ _ _ _ 1 _ _ _ v.ensures.meets)

pub counted-loop-count-init : goal.counted-loop-count-init
counted-loop-count-init t c =
    (omega arith, some_start _ _ _ _ _ _)

pub counted-returns-in_err-past-clause-meets : goal.counted-returns-in_err-past-clause-meets
unfolding spaced
counted-returns-in_err-past-clause-meets t c =
    let p = err_from_is_err_and c.from_residual.result c.from_residual.ensures.1 in
    rw (p.1, p.2) (some_stop _ _ _ _ _ _ c.loop-count.invariant.1 (omega arith) _ (rw c.skip-here.ensures.is at c.in_err-past.ensures.meets))

pub counted-loop-count-preserved : goal.counted-loop-count-preserved
unfolding spaced
counted-loop-count-preserved t c =
    let w = c.in_ok-past.ensures.bounds in
    (omega arith, some_step _ _ _ _ _ _ c.loop-count.invariant.1 (omega arith) _ (rw c.skip-here.ensures.is at c.in_ok-past.ensures.meets))

pub counted-returns-clause-meets : goal.counted-returns-clause-meets
counted-returns-clause-meets t c =
    some_end _ _ _ _ _ _ c.loop-count.invariant.1 (omega arith)

pub member-returns-in_err-item-clause-meets : goal.member-returns-in_err-item-clause-meets
unfolding member_of
member-returns-in_err-item-clause-meets t c =
    λ f next q. no_fault _ _ _ (f, next) (c.in_err-item.ensures.meets _) q

pub member-returns-in-Whole-clause-meets : goal.member-returns-in-Whole-clause-meets
unfolding member_of
member-returns-in-Whole-clause-meets t c =
    let h = rw c.in-Whole.is at c.in_ok-item.ensures.meets in member_past _ _ _ _ _ _ _ _ _ _ _ h _

pub member-returns-in-Opens-clause-meets : goal.member-returns-in-Opens-clause-meets
unfolding member_of
member-returns-in-Opens-clause-meets t c =
    let h = rw c.in-Opens.is at c.in_ok-item.ensures.meets in
    let v = c.container in member_opens _ _ _ _ _ v.result _ _ _ _ _ _ _ h _ v.ensures.meets

pub plain-loop-past-init : goal.plain-loop-past-init
plain-loop-past-init t c =
    (omega arith, until_start _ _ _ _ _ _ _)

pub plain-returns-then-end-here-clause-meets : goal.plain-returns-then-end-here-clause-meets
plain-returns-then-end-here-clause-meets t c =
    let s = c.skip-here.ensures in until_early _ _ _ _ _ _ _ c.loop-past.invariant.1 (rw (← s.is) c.if-end-here.true)

pub plain-returns-then-message-here-clause-meets : goal.plain-returns-then-message-here-clause-meets
plain-returns-then-message-here-clause-meets t c =
    let s = c.skip-here.ensures in
    let i = c.loop-past.invariant in rw s.is (until_end _ _ _ _ _ _ _ i.1 (rw (← s.is) c.if-end-here.false) (rw (← s.is, ← c.closing_mark-closing.ensures) c.if-message-here.true))

pub plain-returns-in_err-past-clause-meets : goal.plain-returns-in_err-past-clause-meets
plain-returns-in_err-past-clause-meets t c =
    let s = c.skip-here.ensures in
    let p = err_from_is_err_and c.from_residual.result c.from_residual.ensures.1 in
    rw (p.1, p.2) (until_stop _ _ _ _ _ _ _ c.loop-past.invariant.1 (rw (← s.is) c.if-end-here.false) (rw (← s.is, ← c.closing_mark-closing.ensures) c.if-message-here.false) _ (rw s.is at c.in_err-past.ensures.meets))

pub plain-loop-past-preserved : goal.plain-loop-past-preserved
plain-loop-past-preserved t c =
    let s = c.skip-here.ensures in
    let w = c.in_ok-past.ensures.bounds in
    (omega arith, until_step _ _ _ _ _ _ _ c.loop-past.invariant.1 (rw (← s.is) c.if-end-here.false) (rw (← s.is, ← c.closing_mark-closing.ensures) c.if-message-here.false) _ (rw s.is at c.in_ok-past.ensures.meets))
