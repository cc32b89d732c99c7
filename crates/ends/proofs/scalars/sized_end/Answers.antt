-- `sized_end`: it fits, or it may be a char. Assumes nothing.
use native.Mathlib.Omega.{arith}
use Rattle.ends.proofs.EndLaws.{sized_ends}
use Rattle.ends.proofs.scalars.sized_end.Goals as goal

pub returns : goal.returns
returns c =
    sized_ends _ _ _ c.requires.2 (omega arith) (omega arith)
