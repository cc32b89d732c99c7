-- `rows_needed`: a refusal's number and place, and the rows, fit their parts. Assumes nothing.
use mathlib.Core.Path.{◌∙◌}
use native.Mathlib.Omega.{arith}
use Rattle.panel.proofs.Readings.{refused_fits, refused_rows, rows_fit, done_rows}
use Rattle.panel.proofs.rows_needed.Goals as goal

pub packed-requires : goal.packed-requires
packed-requires c =
    let e = c.number.ensures in
    let h = refused_fits _ _ _ c.in-Err.ensures in (omega arith, omega arith, omega arith)

pub packed-requires-in-Ok : goal.packed-requires-in-Ok
packed-requires-in-Ok c =
    (omega arith, omega arith, rows_fit _ _ c.in-Ok.ensures)

pub returns-in-Err : goal.returns-in-Err
returns-in-Err c =
    c.packed.ensures ∙ rw c.number.ensures (refused_rows _ _ _ c.in-Err.ensures)

pub returns-in-Ok : goal.returns-in-Ok
returns-in-Ok c =
    c.packed-in-Ok.ensures ∙ done_rows _ _ c.in-Ok.ensures
