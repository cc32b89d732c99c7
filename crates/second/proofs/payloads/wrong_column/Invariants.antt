-- `payloads::wrong_column`: a loop over fields, each of a row at least. Assumes nothing.
use Rattle.std.proofs.Common.{◌-◌}
use Rattle.second.proofs.payloads.wrong_column.Given as goal

abbrev pub decreases-loop-key : goal.decreases-loop-key
decreases-loop-key l = l.schema.to - l.key
