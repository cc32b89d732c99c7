-- `table_at`: the limit, and the walk over the message's value. Assumes nothing.
use native.Mathlib.Omega.{arith}
use Rattle.seek.proofs.Message.{accepted, all_passed}
use Rattle.seek.proofs.table_at.Goals as goal

pub returns-then-message : goal.returns-then-message
returns-then-message c =
    λ f e. absurd (omega (arith, c.if-message.true, (accepted _ f e).short))

pub returns-in-Err-Unread : goal.returns-in-Err-Unread
returns-in-Err-Unread c =
    λ f e.
    let a = accepted _ f e in
    let w = rw c.skip-at.ensures.is at (rw c.in-Err-Unread.field-0-is at (rw c.in-Err-Unread.is at c.member.ensures.meets)) in
    absurd (w f a.next a.value)

pub returns-in-Err-Found : goal.returns-in-Err-Found
returns-in-Err-Found c =
    λ f e.
    let a = accepted _ f e in
    let w = rw c.skip-at.ensures.is at (rw c.in-Err-Found.field-0-is at (rw c.in-Err-Found.is at c.member.ensures.meets)) in
    w f a.next a.value

pub returns-in-Ok : goal.returns-in-Ok
returns-in-Ok c =
    λ f e.
    let a = accepted _ f e in
    let w = rw c.skip-at.ensures.is at c.in-Ok.ensures.meets in
    all_passed f _ _ _ _ _ (w f a.next a.value)
