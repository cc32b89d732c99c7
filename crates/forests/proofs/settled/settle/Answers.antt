-- `settle`: by whether it fits. Assumes nothing.
use mathlib.Core.Path.{sym, ◌∙◌}
use Rattle.forests.specs.Settled.{fitting, too_long}
use Rattle.forests.proofs.settled.settle.Goals as goal

pub returns-then-fits : goal.returns-then-fits
returns-then-fits c =
    fitting (sym c.fits.ensures ∙ c.if-fits.true) c.clear_from.ensures

pub returns : goal.returns
returns c =
    too_long (sym c.fits.ensures ∙ c.if-fits.false) c.clear.ensures c.clear-2.ensures
