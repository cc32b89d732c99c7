-- `size_by_jump`: at each letter the bytes that it has; at the others a number that no message has. Assumes nothing.
use mathlib.Core.Path.{refl}
use Rattle.format.specs.Conditions.{among}
use Rattle.format.specs.Marks.{integers, types, is_scalar}
use Rattle.ends.proofs.EndLaws.{sized_at}
use Rattle.ends.proofs.sizes.size_by_jump.Goals as goal

pub returns-in-90 : goal.returns-in-90
unfolding is_scalar types integers among
returns-in-90 c =
    sized_at c.in-90.is refl refl c.size.ensures

pub returns-in-84 : goal.returns-in-84
unfolding is_scalar types integers among
returns-in-84 c =
    sized_at c.in-84.is refl refl c.size-in-84.ensures

pub returns-in-70 : goal.returns-in-70
unfolding is_scalar types integers among
returns-in-70 c =
    sized_at c.in-70.is refl refl c.size-in-70.ensures

pub returns-in-105 : goal.returns-in-105
unfolding is_scalar types integers among
returns-in-105 c =
    sized_at c.in-105.is refl refl c.size-in-105.ensures

pub returns-in-85 : goal.returns-in-85
unfolding is_scalar types integers among
returns-in-85 c =
    sized_at c.in-85.is refl refl c.size-in-85.ensures

pub returns-in-66 : goal.returns-in-66
unfolding is_scalar types integers among
returns-in-66 c =
    sized_at c.in-66.is refl refl c.size-in-66.ensures

pub returns-in-73 : goal.returns-in-73
unfolding is_scalar types integers among
returns-in-73 c =
    sized_at c.in-73.is refl refl c.size-in-73.ensures

pub returns-in-117 : goal.returns-in-117
unfolding is_scalar types integers among
returns-in-117 c =
    sized_at c.in-117.is refl refl c.size-in-117.ensures

pub returns-in-104 : goal.returns-in-104
unfolding is_scalar types integers among
returns-in-104 c =
    sized_at c.in-104.is refl refl c.size-in-104.ensures

pub returns-in-108 : goal.returns-in-108
unfolding is_scalar types integers among
returns-in-108 c =
    sized_at c.in-108.is refl refl c.size-in-108.ensures

pub returns-in-109 : goal.returns-in-109
unfolding is_scalar types integers among
returns-in-109 c =
    sized_at c.in-109.is refl refl c.size-in-109.ensures

pub returns-in-100 : goal.returns-in-100
unfolding is_scalar types integers among
returns-in-100 c =
    sized_at c.in-100.is refl refl c.size-in-100.ensures

pub returns-in-76 : goal.returns-in-76
unfolding is_scalar types integers among
returns-in-76 c =
    sized_at c.in-76.is refl refl c.size-in-76.ensures

pub returns-in-77 : goal.returns-in-77
unfolding is_scalar types integers among
returns-in-77 c =
    sized_at c.in-77.is refl refl c.size-in-77.ensures

pub returns-in-68 : goal.returns-in-68
unfolding is_scalar types integers among
returns-in-68 c =
    sized_at c.in-68.is refl refl c.size-in-68.ensures
