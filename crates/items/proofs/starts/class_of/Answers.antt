-- `class_of`: by the mark and, at `E`, by the edition. Assumes nothing.
use mathlib.Core.Bool.{and-false}
use borrow.Author.Tests.{ne_eqb}
use Rattle.format.specs.Answers.{grammar_of}
use Rattle.format.specs.Conditions.{when◌then◌else◌}
use Rattle.items.specs.Items.{class}
use Rattle.items.proofs.starts.class_of.Goals as goal

pub returns-then-is_scalar : goal.returns-then-is_scalar
unfolding class when◌then◌else◌
returns-then-is_scalar c =
    rw (← c.is_scalar.ensures, c.if-is_scalar.true)

pub returns-in-83 : goal.returns-in-83
unfolding class when◌then◌else◌
returns-in-83 c =
    rw (← c.is_scalar.ensures, c.if-is_scalar.false, c.in-83.is)

pub returns-in-72 : goal.returns-in-72
unfolding class when◌then◌else◌
returns-in-72 c =
    rw (← c.is_scalar.ensures, c.if-is_scalar.false, c.in-72.is)

pub returns-in-91 : goal.returns-in-91
unfolding class when◌then◌else◌
returns-in-91 c =
    rw (← c.is_scalar.ensures, c.if-is_scalar.false, c.in-91.is)

pub returns-in-123 : goal.returns-in-123
unfolding class when◌then◌else◌
returns-in-123 c =
    rw (← c.is_scalar.ensures, c.if-is_scalar.false, c.in-123.is)

pub returns-in-Old : goal.returns-in-Old
unfolding class when◌then◌else◌
returns-in-Old c =
    rw (← c.is_scalar.ensures, c.if-is_scalar.false, c.in-69.is, c.in-Old.is)

pub returns-in-New : goal.returns-in-New
unfolding class when◌then◌else◌
returns-in-New c =
    rw (← c.is_scalar.ensures, c.if-is_scalar.false, c.in-69.is, c.in-New.is)

pub returns-in_default : goal.returns-in_default
unfolding class when◌then◌else◌
returns-in_default c =
    let n = c.in_default.in_default-own.rest in rw (← c.is_scalar.ensures, c.if-is_scalar.false, ne_eqb _ _ n.1, ne_eqb _ _ n.0.1, ne_eqb _ _ n.0.0.1, ne_eqb _ _ n.0.0.0.1, ne_eqb _ _ n.0.0.0.0.1, and-false (grammar_of c.args.edition).extensions)
