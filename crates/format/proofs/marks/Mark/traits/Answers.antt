-- `Mark::traits`: at each arm the mark is the arm's letter, and its traits are computed; at the last it is none of them. Assumes nothing.
use borrow.Author.Tests.{ne_eqb}
use Rattle.format.specs.Conditions.{when◌then◌else◌, among}
use Rattle.format.specs.Marks.{integers, is_integer, signed_integers, is_signed, types, is_type, is_scalar, width}
use Rattle.format.specs.Traits.{traits_of}
use Rattle.format.proofs.marks.Mark.traits.Goals as goal

pub returns-in-90 : goal.returns-in-90
unfolding traits_of when◌then◌else◌ among integers is_integer signed_integers is_signed types is_type is_scalar width
returns-in-90 c =
    rw c.in-90.is

pub returns-in-84 : goal.returns-in-84
unfolding traits_of when◌then◌else◌ among integers is_integer signed_integers is_signed types is_type is_scalar width
returns-in-84 c =
    rw c.in-84.is

pub returns-in-70 : goal.returns-in-70
unfolding traits_of when◌then◌else◌ among integers is_integer signed_integers is_signed types is_type is_scalar width
returns-in-70 c =
    rw c.in-70.is

pub returns-in-105 : goal.returns-in-105
unfolding traits_of when◌then◌else◌ among integers is_integer signed_integers is_signed types is_type is_scalar width
returns-in-105 c =
    rw c.in-105.is

pub returns-in-85 : goal.returns-in-85
unfolding traits_of when◌then◌else◌ among integers is_integer signed_integers is_signed types is_type is_scalar width
returns-in-85 c =
    rw c.in-85.is

pub returns-in-73 : goal.returns-in-73
unfolding traits_of when◌then◌else◌ among integers is_integer signed_integers is_signed types is_type is_scalar width
returns-in-73 c =
    rw c.in-73.is

pub returns-in-117 : goal.returns-in-117
unfolding traits_of when◌then◌else◌ among integers is_integer signed_integers is_signed types is_type is_scalar width
returns-in-117 c =
    rw c.in-117.is

pub returns-in-108 : goal.returns-in-108
unfolding traits_of when◌then◌else◌ among integers is_integer signed_integers is_signed types is_type is_scalar width
returns-in-108 c =
    rw c.in-108.is

pub returns-in-109 : goal.returns-in-109
unfolding traits_of when◌then◌else◌ among integers is_integer signed_integers is_signed types is_type is_scalar width
returns-in-109 c =
    rw c.in-109.is

pub returns-in-76 : goal.returns-in-76
unfolding traits_of when◌then◌else◌ among integers is_integer signed_integers is_signed types is_type is_scalar width
returns-in-76 c =
    rw c.in-76.is

pub returns-in-77 : goal.returns-in-77
unfolding traits_of when◌then◌else◌ among integers is_integer signed_integers is_signed types is_type is_scalar width
returns-in-77 c =
    rw c.in-77.is

pub returns-in-104 : goal.returns-in-104
unfolding traits_of when◌then◌else◌ among integers is_integer signed_integers is_signed types is_type is_scalar width
returns-in-104 c =
    rw c.in-104.is

pub returns-in-100 : goal.returns-in-100
unfolding traits_of when◌then◌else◌ among integers is_integer signed_integers is_signed types is_type is_scalar width
returns-in-100 c =
    rw c.in-100.is

pub returns-in-68 : goal.returns-in-68
unfolding traits_of when◌then◌else◌ among integers is_integer signed_integers is_signed types is_type is_scalar width
returns-in-68 c =
    rw c.in-68.is

pub returns-in-67 : goal.returns-in-67
unfolding traits_of when◌then◌else◌ among integers is_integer signed_integers is_signed types is_type is_scalar width
returns-in-67 c =
    rw c.in-67.is

pub returns-in-66 : goal.returns-in-66
unfolding traits_of when◌then◌else◌ among integers is_integer signed_integers is_signed types is_type is_scalar width
returns-in-66 c =
    rw c.in-66.is

pub returns-in_default : goal.returns-in_default
unfolding traits_of when◌then◌else◌ among integers is_integer signed_integers is_signed types is_type is_scalar width
returns-in_default c =
    let n = c.in_default.in_default-own.rest in simp (ne_eqb _ _ n.1, ne_eqb _ _ n.0.1, ne_eqb _ _ n.0.0.1, ne_eqb _ _ n.0.0.0.1, ne_eqb _ _ n.0.0.0.0.1, ne_eqb _ _ n.0.0.0.0.0.1, ne_eqb _ _ n.0.0.0.0.0.0.1, ne_eqb _ _ n.0.0.0.0.0.0.0.1, ne_eqb _ _ n.0.0.0.0.0.0.0.0.1, ne_eqb _ _ n.0.0.0.0.0.0.0.0.0.1, ne_eqb _ _ n.0.0.0.0.0.0.0.0.0.0.1, ne_eqb _ _ n.0.0.0.0.0.0.0.0.0.0.0.1, ne_eqb _ _ n.0.0.0.0.0.0.0.0.0.0.0.0.1, ne_eqb _ _ n.0.0.0.0.0.0.0.0.0.0.0.0.0.1, ne_eqb _ _ n.0.0.0.0.0.0.0.0.0.0.0.0.0.0.1, ne_eqb _ _ n.0.0.0.0.0.0.0.0.0.0.0.0.0.0.0.1)
