-- `key_end`: `U`, a length and bytes below 128. Assumes nothing.
use mathlib.Core.Path.{sym, ◌∙◌, ap}
use native.Mathlib.Omega.{arith}
use Rattle.format.specs.Conditions.{all}
use Rattle.format.proofs.Parts.{part_is}
use Rattle.ends.proofs.EndLaws.{key_ends}
use Rattle.ends.proofs.texts.key_end.Goals as goal

pub returns-then-are_chars_singly : goal.returns-then-are_chars_singly
returns-then-are_chars_singly c =
    key_ends _ _ (omega arith) (c.shared_slice_known-3-1.given _).fits (omega arith) (sym (c.are_chars_singly.ensures ∙ ap (all _) (part_is _ _ _)) ∙ c.if-are_chars_singly.true)
