-- `along`: the tests in their order. Assumes nothing.
use mathlib.Core.Path.{sym, ◌∙◌}
use native.Mathlib.Omega.{arith}
use Rattle.ways.proofs.Along.{along_late, along_unfit, along_down, along_past, along_on}
use Rattle.ways.proofs.links.along.Goals as goal
use Rattle.ways.proofs.links.along.Goals.{then-not-fits-via-then-not-fits, then-not-fits-via-else-not-fits+then-link-row, then-not-fits-via-else-not-fits+else-link-row+then-stop-link}

pub returns-then-stop-row : goal.returns-then-stop-row
returns-then-stop-row c =
    along_late _ _ _ _ c.if-stop-row.true

pub returns-then-not-fits : goal.returns-then-not-fits
returns-then-not-fits c =
    let read = c.load-r.ensures.there (omega (arith, c.requires, c.if-stop-row.false)) in
    elim c.then-not-fits.branch [
      | then-not-fits-via-then-not-fits w ↦ along_unfit _ _ _ _ c.if-stop-row.false _ read (sym c.fits.ensures ∙ w.if-not-fits.true)
      | then-not-fits-via-else-not-fits+then-link-row w ↦ along_down _ _ _ _ c.if-stop-row.false _ read (sym c.fits.ensures ∙ w.if-not-fits.false) w.if-link-row.true
      | then-not-fits-via-else-not-fits+else-link-row+then-stop-link w ↦ along_past _ _ _ _ c.if-stop-row.false _ read (sym c.fits.ensures ∙ w.if-not-fits.false) w.if-link-row.false w.if-stop-link.true
    ]

pub returns : goal.returns
returns c =
    along_on _ _ _ _ c.if-stop-row.false _ (c.load-r.ensures.there (omega (arith, c.requires, c.if-stop-row.false))) (sym c.fits.ensures ∙ c.if-not-fits.false) c.if-link-row.false c.if-stop-link.false
