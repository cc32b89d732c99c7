-- `mark_fits`: a scalar's mark, then its width. Assumes nothing.
use mathlib.Core.Path.{◌≡◌, sym, ap, ◌∙◌}
use Rattle.format.specs.Marks.{is_scalar}
use Rattle.values.proofs.Marked.{letter_scalar, letter_is}
use Rattle.values.proofs.scalars.mark_fits.Goals as goal

pub returns-then-not-is_scalar : goal.returns-then-not-is_scalar
returns-then-not-is_scalar c =
    let tested : is_scalar c.args.mark ≡ c.is_scalar.result = sym (c.is_scalar.ensures ∙ ap is_scalar c.of-letter.ensures ∙ letter_scalar _) in
    rw (tested ∙ c.if-not-is_scalar.true)

pub returns : goal.returns
returns c =
    let tested : is_scalar c.args.mark ≡ c.is_scalar.result = sym (c.is_scalar.ensures ∙ ap is_scalar c.of-letter.ensures ∙ letter_scalar _) in
    let e = tested ∙ c.if-not-is_scalar.false in
    rw (e, c.due.ensures, c.of-letter.ensures, letter_is _ e)
