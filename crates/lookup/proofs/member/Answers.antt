-- `member`: the key on the way, its bytes, then its member. Assumes nothing.
use mathlib.Core.Path.{sym, ◌∙◌}
use native.Mathlib.Omega.{arith}
use Rattle.ways.proofs.Exits.{passed_on}
use Rattle.ways.proofs.Along.{went}
use Rattle.lookup.proofs.Walk.{no_key, outside, no_member, the_member}
use Rattle.lookup.proofs.member.Goals as goal
use Rattle.lookup.proofs.member.Goals.{then-not-within-via-then-not-within, then-not-within-via-else-not-within+then-stop-next}

pub returns-in_err-next : goal.returns-in_err-next
returns-in_err-next c =
    rw (passed_on _ _ c.from_residual.ensures.1) (no_key _ _ _ _ _ (sym (rw c.in_err-next.was at c.along.ensures)))

pub returns-then-not-within : goal.returns-then-not-within
returns-then-not-within c =
    let followed = sym (rw c.in_ok-next.was at c.along.ensures) in
    let f = went _ _ _ _ c.along.ensures _ c.in_ok-next.was in
    let read = c.load-k.ensures.there (omega (arith, f.before, c.requires)) in
    elim c.then-not-within.branch [
      | then-not-within-via-then-not-within w ↦ outside _ _ _ _ _ followed _ read (sym c.within.ensures ∙ w.if-not-within.true)
      | then-not-within-via-else-not-within+then-stop-next w ↦ no_member _ _ _ _ _ followed _ read (sym c.within.ensures ∙ w.if-not-within.false) w.if-stop-next.true
    ]

pub returns : goal.returns
returns c =
    let followed = sym (rw c.in_ok-next.was at c.along.ensures) in
    let f = went _ _ _ _ c.along.ensures _ c.in_ok-next.was in
    let read = c.load-k.ensures.there (omega (arith, f.before, c.requires)) in
    the_member _ _ _ _ _ followed _ read (sym c.within.ensures ∙ c.if-not-within.false) c.if-stop-next.false
