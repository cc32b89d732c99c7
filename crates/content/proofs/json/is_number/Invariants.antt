-- `is_number`: the bytes passed lead to the stage reached. Assumes nothing.
use mathlib.Core.Path.{◌≡◌}
use lib.ListN.{drop}
use Rattle.format.specs.JsonNumber as Json
use Rattle.content.specs.Stages.{stage_of}
use Rattle.content.proofs.json.is_number.Given as goal

abbrev pub invariant-loop-b : goal.invariant-loop-b
invariant-loop-b l = Json.is_number l.bytes ≡ Json.numeral (stage_of l.stage) (drop l.b-index l.bytes)
