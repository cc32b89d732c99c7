-- `is_right`: the bytes, where they are all there. Assumes nothing.
use mathlib.Core.Path.{ap, ◌∙◌}
use Rattle.format.specs.Content.{is_content}
use Rattle.format.proofs.Parts.{part_is}
use Rattle.columns.proofs.is_right.Goals as goal

pub returns : goal.returns
returns c =
    λ h. c.is_content.ensures ∙ ap (is_content _) (part_is _ _ _)
