-- `is_text`: each byte before the one reached can stand there, if `stand` says so, and what is left has the shape that is owed. Assumes nothing.
use mathlib.Core.Path.{◌≡◌}
use mathlib.Core.Bool.{◌&&◌}
use lib.ListN.{drop}
use Rattle.format.specs.Text.{shaped, is_text}
use Rattle.content.proofs.Shape.{owed}
use Rattle.content.proofs.text.is_text.Given as goal

abbrev pub invariant-loop-x : goal.invariant-loop-x
invariant-loop-x l = is_text l.bytes ≡ (l.stand && shaped (owed l.a l.b l.c) (drop l.x-index l.bytes))
