-- `number_and_place`: a refusal's number and place fit their parts. Assumes nothing.
use mathlib.Core.Path.{◌∙◌}
use native.Mathlib.Omega.{arith}
use Rattle.panel.proofs.Readings.{refused_fits, refused_place, done_place}
use Rattle.panel.proofs.number_and_place.Goals as goal

pub packed-requires : goal.packed-requires
packed-requires c =
    let e = c.number.ensures in
    let h = refused_fits _ _ _ c.in-Err.ensures in (omega arith, omega arith, omega arith)

pub returns-in-Err : goal.returns-in-Err
returns-in-Err c =
    c.packed.ensures ∙ rw c.number.ensures (refused_place _ _ _ c.in-Err.ensures)

pub returns-in-Ok : goal.returns-in-Ok
returns-in-Ok c =
    c.packed-in-Ok.ensures ∙ done_place _ _ c.in-Ok.ensures
