-- `typed_at`: a table is the one sought or is passed, others are passed. Assumes nothing.
use mathlib.Core.Path.{sym, ◌∙◌}
use native.Mathlib.Omega.{arith}
use Rattle.seek.proofs.Passing.{pass_whole, table_counts, table_found, typed_counts}
use Rattle.seek.proofs.steps.typed_at.Goals as goal

pub returns-then-left-eq0-clause-meets : goal.returns-then-left-eq0-clause-meets
returns-then-left-eq0-clause-meets c =
    let h = rw c.in-Schema.is at c.in_ok-type_at.ensures.meets in
    λ f next q. table_found _ _ _ _ _ c.if-left-eq0.true f next (sym (h _ _ _) ∙ q)

pub returns-in_ok-end-in-Schema-clause-meets : goal.returns-in_ok-end-in-Schema-clause-meets
returns-in_ok-end-in-Schema-clause-meets c =
    let h = rw c.in-Schema.is at c.in_ok-type_at.ensures.meets in
    let e = c.in_ok-end-in-Schema in
    λ f next q. pass_whole e.end c.args.message.now _ _ _ _ _ _ _ _ (table_counts _ _ _ _ _ (omega (arith, c.if-left-eq0.false))) e.ensures.meets f next (sym (h _ _ _) ∙ q)

pub returns-in_ok-end-in-Of-clause-meets : goal.returns-in_ok-end-in-Of-clause-meets
returns-in_ok-end-in-Of-clause-meets c =
    let h = rw c.in-Of.is at c.in_ok-type_at.ensures.meets in
    let e = c.in_ok-end-in-Of in
    λ f next q. pass_whole e.end c.args.message.now _ _ _ _ _ _ _ _ (λ g end e. typed_counts _ _ _ _ _ _ g end (sym (h _ _ _) ∙ e)) e.ensures.meets f next q
