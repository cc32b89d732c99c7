-- `leaf_column`: no bytes, bytes that can't be wrong, or a column. Assumes nothing.
use Rattle.columns.proofs.Down.{column_empty, column_skipped}
use Rattle.columns.proofs.leaf_column.Goals as goal

pub returns-then-wide-eq0-clause-is : goal.returns-then-wide-eq0-clause-is
returns-then-wide-eq0-clause-is c =
    (λ h _. column_empty _ _ _ _ _ _ _ c.requires.1 h c.if-wide-eq0.true)

pub returns-then-not-is_checked-clause-is : goal.returns-then-not-is_checked-clause-is
returns-then-not-is_checked-clause-is c =
    (λ h _. column_skipped _ _ _ _ _ _ _ c.requires.1 (c.is_checked.ensures c.if-not-is_checked.true h))
