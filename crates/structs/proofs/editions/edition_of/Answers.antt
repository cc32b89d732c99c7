-- `edition_of`: at each arm the number is the arm's; at the last it is neither. Assumes nothing.
use borrow.Author.Tests.{ne_eqb}
use Rattle.format.specs.Conditions.{when◌then◌else◌}
use Rattle.structs.specs.Editions.{grammar_numbered}
use Rattle.structs.proofs.editions.edition_of.Goals as goal

pub returns-in-1 : goal.returns-in-1
unfolding grammar_numbered when◌then◌else◌
returns-in-1 c =
    rw c.in-1.is

pub returns-in-2 : goal.returns-in-2
unfolding grammar_numbered when◌then◌else◌
returns-in-2 c =
    rw c.in-2.is

pub returns-in_default : goal.returns-in_default
unfolding grammar_numbered when◌then◌else◌
returns-in_default c =
    rw (ne_eqb _ _ c.in_default.in_default-own.rest.0.1, ne_eqb _ _ c.in_default.in_default-own.rest.1)
