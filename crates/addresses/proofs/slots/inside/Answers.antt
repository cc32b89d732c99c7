-- `inside`: a capped place is inside exactly if the place is. Assumes nothing.
use native.Mathlib.Omega.{arith}
use Rattle.addresses.proofs.SlotCases.{inside_before, inside_past, inside_there}
use Rattle.addresses.proofs.slots.inside.Goals as goal
use Rattle.addresses.proofs.slots.inside.Goals.{then-size-first-via-then-size-first, then-size-first-via-else-size-first+then-size-first-2}

pub returns-then-start-back : goal.returns-then-start-back
returns-then-start-back c =
    λ ws total e. inside_before _ _ _ _ _ _ _ c.requires (omega arith) e c.if-start-back.true

pub returns-then-size-first : goal.returns-then-size-first
returns-then-size-first c =
    λ ws total e. inside_past _ _ _ _ _ _ _ c.requires (omega arith) e c.if-start-back.false (elim c.then-size-first.branch [
      | then-size-first-via-then-size-first w ↦ omega arith
      | then-size-first-via-else-size-first+then-size-first-2 w ↦ omega arith
    ])

pub returns : goal.returns
returns c =
    λ ws total e. inside_there _ _ _ _ _ _ _ c.requires (omega arith) e c.if-start-back.false (omega arith)
