-- `put_part`: a byte at a time, if there is room for all. Assumes nothing.
use Prim.Native.Nat.{◌+◌}
use mathlib.Core.Path.{ap, ◌∙◌}
use native.Mathlib.Omega.{arith}
use lib.ListN.{set, get_or, length-set}
use Rattle.pieces.proofs.Putting.{part_on, part_end}
use Rattle.pieces.proofs.bytes.put_part.Goals as goal

pub loop-i-preserved : goal.loop-i-preserved
loop-i-preserved c =
    (ap (λ l. set l (c.args.at + c.loop-i.i) (get_or c.args.part.now c.loop-i.i 0)) c.loop-i.invariant.0 ∙ part_on _ c.args.part.now c.args.at c.loop-i.i (omega arith), simp length-set c.loop-i.invariant.1)

pub returns : goal.returns
returns c =
    part_end _ _ _ c.args.at _ c.loop-i.i (omega arith) (omega arith) (omega arith) c.loop-i.invariant.0
