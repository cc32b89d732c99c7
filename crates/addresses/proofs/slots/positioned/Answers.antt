-- `positioned`: the extents, the range, and the number. Assumes nothing.
use mathlib.Core.Path.{sym, ◌∙◌}
use Rattle.ways.proofs.Exits.{passed_on}
use Rattle.addresses.proofs.SlotCases.{position_refused, position_out}
use Rattle.addresses.proofs.slots.positioned.Goals as goal

pub returns-in_err-many : goal.returns-in_err-many
returns-in_err-many c =
    rw (passed_on _ _ c.from_residual.ensures.1) (position_refused _ _ _ _ _ (rw c.in_err-many.was at c.extents.ensures))

pub returns-then-not-in_range : goal.returns-then-not-in_range
returns-then-not-in_range c =
    let g = rw c.in_ok-many.was at c.extents.ensures in
    position_out _ _ _ _ _ g.0 (sym c.in_range.ensures ∙ c.if-not-in_range.true)
