-- `are_chars_from`: many; or the first of 32 that all are; or one by one. Assumes nothing.
use mathlib.Core.Path.{sym, ◌∙◌, ap}
use native.Mathlib.Omega.{arith}
use Rattle.format.specs.Conditions.{all}
use Rattle.format.proofs.Parts.{part_is}
use Rattle.ends.proofs.EndLaws.{all_fewer}
use Rattle.ends.proofs.texts.are_chars_from.Goals as goal

pub returns-then-n-gt32 : goal.returns-then-n-gt32
returns-then-n-gt32 c =
    c.are_chars.ensures ∙ ap (all _) (part_is _ _ _)

pub returns-then-are_chars : goal.returns-then-are_chars
returns-then-are_chars c =
    sym (all_fewer _ _ _ _ 32 (omega arith) (sym (c.are_chars-then-message-start-ge32.ensures ∙ ap (all _) (part_is _ _ _)) ∙ c.if-are_chars.true))

pub returns : goal.returns
returns c =
    c.are_chars_singly.ensures ∙ ap (all _) (part_is _ _ _)
