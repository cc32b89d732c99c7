-- `is_owed`: as it is defined. Assumes nothing.
use mathlib.Core.Path.{refl}
use Rattle.content.specs.Owed.{is_owed}
use Rattle.content.proofs.text.is_owed.Goals as goal

pub returns : goal.returns
unfolding is_owed
returns c =
    refl
