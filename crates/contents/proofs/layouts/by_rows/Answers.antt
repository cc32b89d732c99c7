-- `by_rows`: a walk over the whole schema, whose leaves have one stride. Assumes nothing.
use Rattle.contents.proofs.Verdicts.{rows_lowest}
use Rattle.contents.proofs.layouts.by_rows.Goals as goal

pub returns-clause-is : goal.returns-clause-is
returns-clause-is c =
    (λ lent row next s t. rows_lowest t _ c.group-walk.ensures.is)
