-- `value_at_row`: a row of kind 1, then the scalar that it names. Assumes nothing.
use Prim.Native.Nat.{◌<◌}
use mathlib.Core.Path.{◌∙◌}
use Rattle.format.specs.Conditions.{when◌then◌else◌}
use Rattle.format.specs.Tokens.{is_kind}
use Rattle.format.specs.Rows.{rows_in}
use Rattle.values.specs.Due.{due}
use Rattle.values.proofs.ScalarCases.{no_row, other_kind, scalar-row}
use Rattle.values.proofs.at_rows.value_at_row.Goals as goal

pub returns-then-count-row-clause-is : goal.returns-then-count-row-clause-is
unfolding due is_kind when◌then◌else◌
returns-then-count-row-clause-is c =
    no_row _ _ _ (rw (← c.count.ensures) c.if-count-row.true)

pub returns-then-r-number-clause-is : goal.returns-then-r-number-clause-is
unfolding due is_kind when◌then◌else◌
returns-then-r-number-clause-is c =
    let there : c.args.row < rows_in c.args.rows.now = rw (← c.count.ensures) c.if-count-row.false in other_kind _ _ _ (there) _ (c.load-r.ensures.there (there)) (rw c.number.ensures at c.if-r-number.true)

pub returns-clause-is : goal.returns-clause-is
unfolding due is_kind when◌then◌else◌
returns-clause-is c =
    let there : c.args.row < rows_in c.args.rows.now = rw (← c.count.ensures) c.if-count-row.false in c.scalar_at.ensures.is ∙ scalar-row _ _ _ (there) _ (c.load-r.ensures.there (there)) (rw c.number.ensures at c.if-r-number.false)
