-- The cycle of `container`, `member`, `following`, `counted`, `plain`, `rest`, `deep` and `held`: each call has a level less, or is nearer to where a level is taken. Assumes nothing.
use mathlib.Core.Path.{◌≡◌, refl, sym, ◌∙◌}
use Rattle.std.proofs.lemmas.Result.{err_from_is_err_and}
use Rattle.format.specs.Outcome.{◌>>=◌}
use Rattle.containers.specs.Lists.{closed}
use native.Mathlib.Omega.{arith}
use native.Mathlib.Nat.{sub-zero}
use lib.ListN.{length}
use Rattle.format.specs.Answers.{grammar_of}
use Rattle.format.specs.Marks.{opening_of}
use Rattle.format.specs.Sequences.{spaced}
use Rattle.format.specs.Read.{nested}
use Rattle.laws.proofs.Skips.{skip_again}
use Rattle.scan.proofs.Stands.{stands_there}
use Rattle.runs.proofs.Passing.{passed_start, passed_one}
use Rattle.tokens.proofs.Laying.{within_from}
use Rattle.items.specs.Headers.{member_of}
use Rattle.items.proofs.ItemLaws.{opened_meets}
use Rattle.nesting.proofs.Following.{closing_here, opening_begins, some_passed, until_passed, until_skip, passed_stop, list-fault, list_passed, opened_plain, first-fault}
use Rattle.containers.proofs.Loops.{some_start, some_step, some_fault, some_end, until_start, until_early, until_stop, until-fault}
use Rattle.nesting.proofs.values.+container_counted_deep_following_held_member_plain_rest.Goals as goal

pub container-returns-in-Counted-clause-bounds : goal.container-returns-in-Counted-clause-bounds
container-returns-in-Counted-clause-bounds t c =
    let w = rw c.in-Counted.is at c.in_ok-header_at.ensures.bounds in
    let z = c.close in within_from z.result _ _ _ _ (omega (arith, w)) (z.ensures.bounds _ _ (rw (sub-zero (length c.args.message.now)) c.counted-list.ensures.bounds) (omega arith))

pub container-returns-in-Plain-clause-bounds : goal.container-returns-in-Plain-clause-bounds
container-returns-in-Plain-clause-bounds t c =
    let w = rw c.in-Plain.is at c.in_ok-header_at.ensures.bounds in
    let z = c.close-in-Plain in within_from z.result _ _ _ _ (omega (arith, w)) (z.ensures.bounds _ _ c.plain-list.ensures.bounds (omega (arith, w)))

pub counted-loop-count-init : goal.counted-loop-count-init
counted-loop-count-init t c =
    (omega arith, refl, some_start _ _ _ _ _ _)

pub counted-loop-count-preserved-then-run-gt0 : goal.counted-loop-count-preserved-then-run-gt0
unfolding member_of
counted-loop-count-preserved-then-run-gt0 t c =
    let i = c.loop-count.invariant in
    let v = c.several-run in
    let e = v.ensures.1 in
    (omega arith, v.auto.rows ∙ i.1, some_passed _ _ _ _ _ _ _ _ _ _ _ _ _ _ _ _ i.2 (v.ensures.0 (grammar_of c.args.edition) (nested c.args.message.now c.args.lent (grammar_of c.args.edition) c.args.levels)) (omega arith))

pub counted-loop-count-preserved : goal.counted-loop-count-preserved
unfolding spaced
counted-loop-count-preserved t c =
    let i = c.loop-count.invariant in
    let r = c.several-run in
    let still = (r.ensures.0 (grammar_of c.args.edition) (nested c.args.message.now c.args.lent (grammar_of c.args.edition) c.args.levels)).still (omega (arith, c.if-run-gt0.false)) in
    let s = c.skip-here.ensures in
    let w = c.in_ok-end.ensures.bounds in
    (omega arith, c.member.auto.rows ∙ r.auto.rows ∙ i.1, some_step _ _ _ _ _ _ i.2 _ _ _ c.loop-count-test.true (rw still.2 at (rw s.is at c.in_ok-end.ensures.meets)))

pub counted-returns-clause-meets : goal.counted-returns-clause-meets
counted-returns-clause-meets t c =
    let i = c.loop-count.invariant in
    let k = i.2.most in
    let e : c.loop-count.count ≡ c.args.n = omega (arith, c.loop-count-test.false) in rw e (some_end _ _ _ _ _ _ i.2 c.loop-count-test.false)

pub counted-returns-in_err-end-clause-meets : goal.counted-returns-in_err-end-clause-meets
unfolding spaced
counted-returns-in_err-end-clause-meets t c =
    let p = err_from_is_err_and c.from_residual.result c.from_residual.ensures.1 in
    rw (p.1, p.2) (some_fault _ _ _ _ _ _ c.loop-count.invariant.2 _ _ c.loop-count-test.true (rw c.skip-here.ensures.is at c.in_err-end.ensures.meets))

pub deep-returns : goal.deep-returns
deep-returns t c =
    let o = c.opens_deep.ensures c.if-not-opens_deep.false in
    let l = c.in_ok-list.ensures in
    let z = c.enclose-end.ensures in
    let w = z.bounds (length c.args.message.now) c.args.lent l.bounds (omega (arith, o.there)) in
    let h = z.meets _ _ (rw c.held_by-children.ensures.is at (l.meets (length c.args.message.now) (omega arith))) in
    let v = c.rest-2 in
    let b = v.ensures.bounds c.args.start (omega (arith, w)) in
    record { meets = v.ensures.meets _ _ _ (passed_one _ _ _ _ _ _ _ _ _ _ (opening_begins _ _ (opening_of c.args.brace) _ o.opening) (omega (arith, w)) (rw (opened_plain _ _ _ _ _ _ _ _ o) h)); bounds = b.0; few = b.1 }

pub deep-rest-requires-2 : goal.deep-rest-requires-2
deep-rest-requires-2 t c =
    let o = c.opens_deep.ensures c.if-not-opens_deep.false in
    let w = c.enclose-end.ensures.bounds (length c.args.message.now) c.args.lent c.in_ok-list.ensures.bounds (omega (arith, o.there)) in (omega arith, (omega (arith, w), omega (arith, w), omega (arith, w)))

pub deep-returns-in_err-list-clause-meets : goal.deep-returns-in_err-list-clause-meets
unfolding closed ◌>>=◌
deep-returns-in_err-list-clause-meets t c =
    let p = err_from_is_err_and c.from_residual.result c.from_residual.ensures.1 in
    let o = c.opens_deep.ensures c.if-not-opens_deep.false in
    rw (p.1, p.2) (first-fault _ _ _ _ _ _ _ (opening_begins _ _ (opening_of c.args.brace) _ o.opening) (rw (opened_plain _ _ _ _ _ _ _ _ o, c.in_err-list.ensures.meets (length c.args.message.now) (omega arith))))

pub deep-returns-then-not-opens_deep-clause-meets : goal.deep-returns-then-not-opens_deep-clause-meets
deep-returns-then-not-opens_deep-clause-meets t c =
    c.rest.ensures.meets _ _ _ (passed_start _ _ _ _ _ _ _)

pub following-returns-then-run-gt0-clause-meets : goal.following-returns-then-run-gt0-clause-meets
unfolding member_of
following-returns-then-run-gt0-clause-meets t c =
    let v = c.several-run in
    let e = v.ensures.1 in v.ensures.0 (grammar_of c.args.edition) (nested c.args.message.now c.args.lent (grammar_of c.args.edition) c.args.levels)

pub following-returns-in_err-list-clause-meets : goal.following-returns-in_err-list-clause-meets
unfolding closed ◌>>=◌
following-returns-in_err-list-clause-meets t c =
    let p = err_from_is_err_and c.from_residual.result c.from_residual.ensures.1 in
    let o = c.opens_plain.ensures c.if-opens_plain.true in
    rw (p.1, p.2, opened_plain _ _ _ _ _ _ _ _ o, c.in_err-list.ensures.meets (length c.args.message.now) (omega arith))

pub following-returns-then-opens_plain-clause-meets : goal.following-returns-then-opens_plain-clause-meets
following-returns-then-opens_plain-clause-meets t c =
    let o = c.opens_plain.ensures c.if-opens_plain.true in
    let l = c.in_ok-list.ensures in
    let z = c.enclose-end.ensures in
    let w = z.bounds (length c.args.message.now) c.args.lent l.bounds (omega (arith, o.there)) in
    passed_one _ _ _ _ _ _ _ _ _ _ c.requires.1 (omega (arith, w)) (rw (opened_plain _ _ _ _ _ _ _ _ o) (z.meets _ _ (rw c.held_by-children.ensures.is at (l.meets (length c.args.message.now) (omega arith)))))

pub following-returns-then-opens_plain-clause-bounds : goal.following-returns-then-opens_plain-clause-bounds
following-returns-then-opens_plain-clause-bounds t c =
    let o = c.opens_plain.ensures c.if-opens_plain.true in
    let w = c.enclose-end.ensures.bounds (length c.args.message.now) c.args.lent c.in_ok-list.ensures.bounds (omega (arith, o.there)) in omega (arith, w)

pub following-returns-clause-meets : goal.following-returns-clause-meets
following-returns-clause-meets t c =
    let r = c.several-run in
    let still = (r.ensures.0 (grammar_of c.args.edition) (nested c.args.message.now c.args.lent (grammar_of c.args.edition) c.args.levels)).still (omega (arith, c.if-run-gt0.false)) in
    let w = c.in_ok-end.ensures.bounds in passed_one _ _ _ _ _ _ _ _ _ _ c.requires.1 (omega (arith, w)) (rw still.2 at c.in_ok-end.ensures.meets)

pub held-deep-requires : goal.held-deep-requires
held-deep-requires t c =
    let b = opening_begins c.args.message.now c.args.start (opening_of c.args.brace) _ (rw c.byte_at.ensures at (c.is_opening.ensures c.if-is_opening.true)) in (omega arith, (omega arith, b.there, omega arith))

pub held-returns-clause-meets : goal.held-returns-clause-meets
unfolding member_of
held-returns-clause-meets t c =
    c.rest.ensures.meets _ _ _ (c.several-run.ensures.0 (grammar_of c.args.edition) (nested c.args.message.now c.args.lent (grammar_of c.args.edition) c.args.levels))

pub member-returns-in_err-end-clause-meets : goal.member-returns-in_err-end-clause-meets
unfolding member_of
member-returns-in_err-end-clause-meets t c =
    let p = err_from_is_err_and c.from_residual.result c.from_residual.ensures.1 in
    rw (p.1, p.2) (c.in_err-end.ensures.meets _)

pub member-returns-in-Whole-clause-meets : goal.member-returns-in-Whole-clause-meets
unfolding member_of
member-returns-in-Whole-clause-meets t c =
    let h = rw c.in-Whole.is at c.in_ok-end.ensures.meets in h _

pub member-returns-in-Opens-clause-meets : goal.member-returns-in-Opens-clause-meets
unfolding member_of
member-returns-in-Opens-clause-meets t c =
    let h = rw c.in-Opens.is at c.in_ok-end.ensures.meets in
    let v = c.container in opened_meets v.result _ _ _ _ _ _ _ _ _ h _ v.ensures.meets

pub plain-loop-at-init : goal.plain-loop-at-init
plain-loop-at-init t c =
    (omega arith, refl, omega arith, λ fuel₀ h. until_start _ _ _ _ _ _ _ _ fuel₀ h)

pub plain-following-requires : goal.plain-following-requires
plain-following-requires t c =
    let s = c.skip-at.ensures in
    (omega arith, (omega arith, record { there = omega (arith, c.if-end-at.false); here = rw s.is (skip_again _ _); more = rw (← c.closing_mark-closing.ensures) c.if-message-at.false }, omega arith))

pub plain-returns-in_err-list-clause-meets : goal.plain-returns-in_err-list-clause-meets
plain-returns-in_err-list-clause-meets t c =
    let p = err_from_is_err_and c.from_residual.result c.from_residual.ensures.1 in
    let i = c.loop-at.invariant in
    let s = c.skip-at.ensures in
    rw (p.1, p.2) (λ fuel₀ h. until-fault _ _ _ _ _ _ _ _ (i.3 fuel₀ h) (rw (← s.is) s.bounds.0) (rw (← s.is) c.if-end-at.false) (rw (← s.is, ← c.closing_mark-closing.ensures) c.if-message-at.false) _ _ (rw s.is at c.in_err-list.ensures.meets))

pub plain-loop-at-preserved : goal.plain-loop-at-preserved
plain-loop-at-preserved t c =
    let i = c.loop-at.invariant in
    let s = c.skip-at.ensures in
    let w = c.in_ok-list.ensures.bounds in
    (omega arith, c.following.auto.rows ∙ i.1, omega arith, λ fuel₀ h. until_passed _ _ _ _ _ _ _ _ _ _ _ _ _ _ _ _ (until_skip _ _ _ _ _ _ _ _ _ _ _ _ (rw (← s.is) s.bounds.0) (i.3 fuel₀ h)) (rw s.is at c.in_ok-list.ensures.meets))

pub plain-returns-then-end-at-clause-meets : goal.plain-returns-then-end-at-clause-meets
plain-returns-then-end-at-clause-meets t c =
    let i = c.loop-at.invariant in
    let s = c.skip-at.ensures in
    λ fuel₀ h. until_early _ _ _ _ _ _ _ _ (i.3 fuel₀ h) (rw (← s.is) s.bounds.0) (rw (← s.is) c.if-end-at.true)

pub plain-returns-then-message-at-clause-meets : goal.plain-returns-then-message-at-clause-meets
plain-returns-then-message-at-clause-meets t c =
    let i = c.loop-at.invariant in
    let s = c.skip-at.ensures in
    λ fuel₀ h. rw s.is (until_stop _ _ _ _ _ _ _ _ (i.3 fuel₀ h) (rw (← s.is) s.bounds.0) (rw (← s.is) c.if-end-at.false) (rw (← s.is, ← c.closing_mark-closing.ensures) c.if-message-at.true))

pub rest-returns-then-stands-clause-meets : goal.rest-returns-then-stands-clause-meets
rest-returns-then-stands-clause-meets t c =
    let a = stands_there _ _ _ (sym c.stands.ensures ∙ c.if-stands.true) in
    let k = rw c.closing_mark.ensures at a.1 in (λ start first before p fuel h. passed_stop _ _ _ _ _ _ _ fuel _ _ _ _ h p (closing_here _ _ (opening_of c.args.brace) a.0 k) a.0 k)

pub rest-returns-then-stands-clause-bounds : goal.rest-returns-then-stands-clause-bounds
rest-returns-then-stands-clause-bounds t c =
    let a = stands_there _ _ _ (sym c.stands.ensures ∙ c.if-stands.true) in
    let k = rw c.closing_mark.ensures at a.1 in (λ start h. (omega (arith, a.0, h), h))

pub rest-returns-in_err-list-clause-meets : goal.rest-returns-in_err-list-clause-meets
rest-returns-in_err-list-clause-meets t c =
    let p = err_from_is_err_and c.from_residual.result c.from_residual.ensures.1 in
    rw (p.1, p.2) (λ start first before q. list-fault _ _ _ _ _ _ _ _ _ _ _ q _ _ c.in_err-list.ensures.meets)

pub rest-returns-clause-meets : goal.rest-returns-clause-meets
rest-returns-clause-meets t c =
    λ start first before q. list_passed _ _ _ _ _ _ _ _ _ _ _ q _ _ _ _ c.in_ok-list.ensures.meets
