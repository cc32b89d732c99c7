-- `is_content`: by the mark. Assumes nothing.
use borrow.Author.Tests.{ne_eqb}
use Rattle.format.specs.Conditions.{when◌then◌else◌}
use Rattle.format.specs.Content.{is_content}
use Rattle.content.proofs.is_content.Goals as goal

pub returns-in-83 : goal.returns-in-83
unfolding is_content when◌then◌else◌
returns-in-83 c =
    rw c.in-83.is c.is_text.ensures

pub returns-in-72 : goal.returns-in-72
unfolding is_content when◌then◌else◌
returns-in-72 c =
    rw c.in-72.is c.is_number.ensures

pub returns-in-67 : goal.returns-in-67
unfolding is_content when◌then◌else◌
returns-in-67 c =
    rw c.in-67.is c.are_chars.ensures

pub returns-in-84 : goal.returns-in-84
unfolding is_content when◌then◌else◌
returns-in-84 c =
    rw c.in-84.is c.are_booleans.ensures

pub returns-in_default : goal.returns-in_default
unfolding is_content when◌then◌else◌
returns-in_default c =
    let n = c.in_default.in_default-own.rest in simp (ne_eqb _ _ n.1, ne_eqb _ _ n.0.1, ne_eqb _ _ n.0.0.1, ne_eqb _ _ n.0.0.0.1)
