-- `table_contents`: the least place of a wrong slot is the first one's. Assumes nothing.
use mathlib.Core.Path.{sym, ◌∙◌, ap}
use Rattle.columns.proofs.Tiles.{verdict}
use Rattle.contents.proofs.Verdicts.{table_verdict, verdict_wrong, verdict_right}
use Rattle.contents.proofs.tables.table_contents.Goals as goal

pub returns-then-place-gt-MOST : goal.returns-then-place-gt-MOST
returns-then-place-gt-MOST c =
    λ lent row next n s t.
    verdict_right _ c.if-place-gt-MOST.true ∙ ap verdict (c.lowest-place.ensures.is lent row next n s t) ∙ sym (table_verdict t _ n)

pub returns : goal.returns
returns c =
    λ lent row next n s t.
    verdict_wrong _ c.if-place-gt-MOST.false ∙ ap verdict (c.lowest-place.ensures.is lent row next n s t) ∙ sym (table_verdict t _ n)
