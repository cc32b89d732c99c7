-- `lowest`: by the opening. Assumes nothing.
use mathlib.Core.Path.{sym, ◌∙◌}
use Rattle.contents.proofs.Verdicts.{table_by_rows, table_by_columns}
use Rattle.contents.proofs.layouts.lowest.Goals as goal

pub returns-then-brace-clause-is : goal.returns-then-brace-clause-is
returns-then-brace-clause-is c =
    (λ lent row next n s t. rw c.if-brace.true (c.by_columns.ensures.is _ lent row next s t ∙ sym (table_by_columns t n)))

pub returns-clause-is : goal.returns-clause-is
returns-clause-is c =
    (λ lent row next n s t. rw c.if-brace.false (c.by_rows.ensures.is lent row next s t ∙ sym (table_by_rows t n)))
