-- `held_by`: the row after, and one deeper. Assumes nothing.
use mathlib.Core.Path.{refl}
use Rattle.format.specs.Rows.{held_by}
use Rattle.rows.proofs.held_by.Goals as goal

pub returns-clause-is : goal.returns-clause-is
unfolding held_by
returns-clause-is c =
    refl
