-- `text_end`: `S`, `U`, a length and bytes below 128. Assumes nothing.
use mathlib.Core.Path.{sym, ◌∙◌}
use native.Mathlib.Omega.{arith}
use Rattle.ends.proofs.EndLaws.{text_ends}
use Rattle.ends.proofs.texts.text_end.Goals as goal

pub returns-then-are_chars_from : goal.returns-then-are_chars_from
returns-then-are_chars_from c =
    text_ends _ _ (omega arith) (omega arith) (c.shared_slice_known-4-1.given _).fits (omega arith) (sym c.are_chars_from.ensures ∙ c.if-are_chars_from.true)
