-- `are_booleans`: each byte before the one reached is a boolean. Assumes nothing.
use mathlib.Core.Path.{sym, ◌∙◌}
use native.Mathlib.Omega.{arith}
use Rattle.content.proofs.All.{all_on, all_off, all_end}
use Rattle.content.proofs.are_booleans.Goals as goal

pub returns-then-not-is_boolean : goal.returns-then-not-is_boolean
returns-then-not-is_boolean c =
    sym (c.loop-b.invariant ∙ all_off _ c.args.bytes.now c.loop-b.b-index (omega arith) (rw (← c.is_boolean.ensures) c.if-not-is_boolean.true))

pub loop-b-preserved : goal.loop-b-preserved
loop-b-preserved c =
    (c.loop-b.invariant ∙ all_on _ c.args.bytes.now c.loop-b.b-index (omega arith) (rw (← c.is_boolean.ensures) c.if-not-is_boolean.false))

pub returns : goal.returns
returns c =
    sym (c.loop-b.invariant ∙ all_end _ c.args.bytes.now c.loop-b.b-index (omega arith))
