-- `are_chars_singly`: each byte before the one reached is a char. Assumes nothing.
use mathlib.Core.Path.{sym, ◌∙◌}
use native.Mathlib.Omega.{arith}
use borrow.Author.Tests.{le-leb, lt-leb}
use Rattle.content.proofs.All.{all_on, all_off, all_end}
use Rattle.ends.proofs.texts.are_chars_singly.Goals as goal

pub returns-then-b-gt127 : goal.returns-then-b-gt127
returns-then-b-gt127 c =
    sym (c.loop-b.invariant ∙ all_off _ c.args.bytes.now c.loop-b.b-index (omega arith) (lt-leb _ _ c.if-b-gt127.true))

pub loop-b-preserved : goal.loop-b-preserved
loop-b-preserved c =
    c.loop-b.invariant ∙ all_on _ c.args.bytes.now c.loop-b.b-index (omega arith) (le-leb _ _ c.if-b-gt127.false)

pub returns : goal.returns
returns c =
    sym (c.loop-b.invariant ∙ all_end _ c.args.bytes.now c.loop-b.b-index (omega arith))
