-- `after_key`: past the bytes of the key. Assumes nothing.
use mathlib.Core.Path.{sym, ◌∙◌}
use native.Mathlib.Omega.{arith}
use Rattle.columns.proofs.Inverse.{never, done_pair}
use Rattle.contents.proofs.Groups.{after_none, after_read}
use Rattle.contents.proofs.walk.after_key.Goals as goal

pub returns-then-not-brace : goal.returns-then-not-brace
returns-then-not-brace c =
    after_none _ c.args.brace _ c.if-not-brace.true

pub returns-then-end-at : goal.returns-then-end-at
returns-then-end-at c =
    after_read _ c.args.brace _ _ c.if-not-brace.false (λ lent row end g x. absurd (let h = x.there in omega arith))

pub returns-then-end-length : goal.returns-then-end-length
returns-then-end-length c =
    after_read _ c.args.brace _ _ c.if-not-brace.false (λ lent row end g x.
    let p = done_pair (sym x.length_read ∙ sym c.in-Ok.ensures.is) in
    let q = p.0 in
    let s = p.1 in
    let e = x.ends in
    let i = x.inside in
    absurd (omega arith))

pub returns-in_default : goal.returns-in_default
returns-in_default c =
    after_read _ c.args.brace _ _ c.if-not-brace.false (λ lent row end g x.
    absurd (never (c.in_default.ensures.is ∙ x.length_read)))

pub returns : goal.returns
returns c =
    after_read _ c.args.brace _ _ c.if-not-brace.false (λ lent row end g x.
    let p = done_pair (sym x.length_read ∙ sym c.in-Ok.ensures.is) in
    let q = p.0 in
    let s = p.1 in
    let e = x.ends in
    omega arith)
