-- `can_stand`: as it is defined. Assumes nothing.
use Rattle.format.specs.Conditions.{between}
use Rattle.content.specs.Owed.{can_stand}
use Rattle.content.proofs.text.can_stand.Goals as goal

pub returns : goal.returns
unfolding can_stand between
returns c =
    rw c.is_owed.ensures
