-- `part_at`: empty, or from the place's first byte to its last. Assumes nothing.
use mathlib.Core.Path.{◌∙◌}
use Rattle.format.proofs.Parts.{part_is}
use Rattle.texts.proofs.TextCases.{no_part, the_part}
use Rattle.texts.proofs.parts.part_at.Goals as goal

pub returns-in-Err-clause-is : goal.returns-in-Err-clause-is
returns-in-Err-clause-is c =
    let e = c.in-Err.is in (λ o q. (no_part _ c.args.message.ref_ptr o _ (rw e at q)).0)

pub returns-in-Err-clause-here : goal.returns-in-Err-clause-here
returns-in-Err-clause-here c =
    let e = c.in-Err.is in λ o q. (no_part c.args.message.now _ o _ (rw e at q)).1

pub returns-in-Ok-clause-is : goal.returns-in-Ok-clause-is
returns-in-Ok-clause-is c =
    let e = c.in-Ok.is in (λ o q. part_is _ _ _ ∙ (the_part _ c.args.message.ref_ptr o _ _ (rw e at q)).0)

pub returns-in-Ok-clause-here : goal.returns-in-Ok-clause-here
returns-in-Ok-clause-here c =
    let e = c.in-Ok.is in λ o q. (the_part c.args.message.now _ o _ _ (rw e at q)).1
