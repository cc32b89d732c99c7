-- `are_chars`: each byte before the one reached is a char, if `chars` says so. Assumes nothing.
use mathlib.Core.Path.{sym, ◌∙◌}
use mathlib.Core.Bool.{and-true, and_assoc}
use native.Mathlib.Omega.{arith}
use Rattle.content.proofs.All.{all_cons, all_end}
use Rattle.content.proofs.are_chars.Goals as goal

pub loop-b-preserved : goal.loop-b-preserved
loop-b-preserved c =
    let v = c.loop-b.invariant in (v ∙ rw (all_cons _ c.args.bytes.now c.loop-b.b-index (omega arith), and_assoc))

pub returns : goal.returns
returns c =
    let v = c.loop-b.invariant in sym (v ∙ rw (all_end _ c.args.bytes.now c.loop-b.b-index (omega arith)) (and-true _))
