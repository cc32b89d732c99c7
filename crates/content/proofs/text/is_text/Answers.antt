-- `is_text`: each byte before the one reached can stand there, if `stand` says so, and what is left has the shape that is owed. Assumes nothing.
use mathlib.Core.Path.{sym, ◌∙◌}
use mathlib.Core.Bool.{and_assoc}
use native.Mathlib.Omega.{arith}
use Rattle.format.specs.Text.{is_text}
use Rattle.content.proofs.Shape.{chars_shaped, shaped_start, shaped_on, shaped_end}
use Rattle.content.proofs.text.is_text.Goals as goal

pub returns-then-are_chars : goal.returns-then-are_chars
unfolding is_text
returns-then-are_chars c =
    sym (chars_shaped _ (sym c.are_chars.ensures ∙ c.if-are_chars.true))

pub loop-x-init : goal.loop-x-init
unfolding is_text
loop-x-init c =
    shaped_start _

pub loop-x-preserved : goal.loop-x-preserved
unfolding is_text
loop-x-preserved c =
    let v = c.loop-x.invariant in (v ∙ rw (shaped_on c.args.bytes.now _ _ _ c.loop-x.x-index (omega arith), and_assoc, c.can_stand-stand.ensures))

pub returns : goal.returns
unfolding is_text
returns c =
    let v = c.loop-x.invariant in sym (v ∙ rw (shaped_end c.args.bytes.now _ _ _ c.loop-x.x-index (omega arith), c.is_owed.ensures))
