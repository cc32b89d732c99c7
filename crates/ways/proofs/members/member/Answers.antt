-- `member`: by whether the container is a schema. Assumes nothing.
use mathlib.Core.Path.{refl}
use Rattle.format.specs.Conditions.{when◌then◌else◌}
use Rattle.ways.specs.Members.{member_from}
use Rattle.ways.proofs.members.member.Goals as goal

pub returns-then-fits : goal.returns-then-fits
unfolding member_from when◌then◌else◌
returns-then-fits c =
    rw (← c.fits.ensures, c.if-fits.true) c.along_child.ensures

pub returns-else-fits : goal.returns-else-fits
unfolding member_from when◌then◌else◌
returns-else-fits c =
    rw (← c.fits.ensures, c.if-fits.false) refl
