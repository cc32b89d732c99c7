-- `scalar_end`: by the mark's number of bytes, and no char over 127. Assumes nothing.
use Prim.Native.Nat.{◌+◌}
use native.Mathlib.Omega.{arith}
use Rattle.ends.proofs.EndLaws.{spans_ends}
use Rattle.ends.proofs.scalars.scalar_end.Goals as goal

pub returns : goal.returns
returns c =
    let b = (c.shared_slice_known-1.given c.args.at).fits in
    spans_ends _ _ _ (rw (c.number-n.ensures, c.number.ensures) (c.requires.2.spans _ (omega (arith, b)))) (omega arith) (omega arith) (omega arith) c.if-both-eq-HIGH_CHAR.false (c.shared_slice_known-2-1.given (c.args.at + 1)).fits
