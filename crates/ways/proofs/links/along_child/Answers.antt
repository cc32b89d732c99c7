-- `along_child`: the parent, then the rest. Assumes nothing.
use mathlib.Core.Path.{◌∙◌}
use native.Mathlib.Omega.{arith}
use Rattle.ways.proofs.Along.{along_other, along_own}
use Rattle.ways.proofs.links.along_child.Goals as goal
use Rattle.ways.proofs.links.along_child.Goals.{then-parent-eq0-via-then-parent-eq0, then-parent-eq0-via-else-parent-eq0+then-parent-container}

pub returns-then-parent-eq0 : goal.returns-then-parent-eq0
returns-then-parent-eq0 c =
    along_other _ _ _ _ _ c.requires _ c.load-parent.ensures.there (elim c.then-parent-eq0.branch [
      | then-parent-eq0-via-then-parent-eq0 w ↦ λ e. omega (arith, e, w.if-parent-eq0.true)
      | then-parent-eq0-via-else-parent-eq0+then-parent-container w ↦ λ e. omega (arith, e, w.if-parent-container.true)
    ])

pub returns : goal.returns
returns c =
    c.along.ensures ∙ along_own _ _ _ _ _ c.requires _ c.load-parent.ensures.there (omega (arith, c.if-parent-container.false, c.if-parent-eq0.false))
