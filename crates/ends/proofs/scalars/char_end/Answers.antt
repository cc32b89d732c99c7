-- `char_end`: `C` and a byte below 128. Assumes nothing.
use native.Mathlib.Omega.{arith}
use Rattle.ends.proofs.EndLaws.{char_ends}
use Rattle.ends.proofs.scalars.char_end.Goals as goal

pub returns : goal.returns
returns c =
    char_ends _ _ (omega arith) (omega arith) (omega arith)
