-- `order::list_columns`: a loop over the fields. Assumes nothing.
use Rattle.std.proofs.Common.{◌-◌}
use Rattle.tiles.proofs.order.list_columns.Given as goal

abbrev pub decreases-loop-key : goal.decreases-loop-key
decreases-loop-key l = l.end - l.key
