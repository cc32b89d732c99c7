-- `field`: a first walk gives its width, and so its values' place; a second looks at its leaves. Assumes nothing.
use Rattle.contents.proofs.Verdicts.{field_first, field_over}
use Rattle.contents.proofs.layouts.field.Goals as goal

pub returns-clause-is : goal.returns-clause-is
returns-clause-is c =
    (λ lent row next f l e i.
    field_over _ _ _ _ _ _ _ c.kind-walk.ensures.is lent row next f l e i (field_first _ _ _ _ _ _ c.kind-first.ensures.is lent row next f l e i))
