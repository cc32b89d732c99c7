-- `is_boolean`: one of the two letters. Assumes nothing.
use mathlib.Core.Bool.{or-false}
use borrow.Author.Tests.{eq-eqb, ne_eqb}
use Rattle.format.specs.Conditions.{among}
use Rattle.format.specs.Marks.{is_boolean}
use Rattle.content.proofs.is_boolean.Goals as goal

pub returns-then-b-eq-TRUE : goal.returns-then-b-eq-TRUE
unfolding is_boolean among
returns-then-b-eq-TRUE c =
    rw (eq-eqb _ _ c.if-b-eq-TRUE.true)

pub returns : goal.returns
unfolding is_boolean among
returns c =
    rw (ne_eqb _ _ c.if-b-eq-TRUE.false, or-false)
