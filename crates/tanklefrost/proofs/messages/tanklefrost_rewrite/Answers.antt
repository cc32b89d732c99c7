-- `tanklefrost_rewrite`: as the rewriter answers by the edition named; else all words and bytes are cleared. Assumes nothing.
use mathlib.Core.Path.{ap, ◌∙◌}
use Rattle.format.specs.Outcome.{number_of, place_of, or_zero}
use Rattle.format.specs.HouseForm.{bytes_written, output_after, rewrite_words_after}
use Rattle.structs.specs.Answers.{reading_for}
use Rattle.tanklefrost.proofs.Numbered.{read_by, rewrite_by, rewrite_by_none}
use Rattle.tanklefrost.proofs.messages.tanklefrost_rewrite.Goals as goal

pub returns-in_default : goal.returns-in_default
unfolding bytes_written output_after rewrite_words_after number_of place_of or_zero
returns-in_default c =
    rw (rewrite_by_none _ c.in_default.ensures _ _ _) (record { answer = c.from.ensures; output = c.clear-in_default.ensures; words = c.clear.ensures })

pub returns : goal.returns
returns c =
    let written = c.rewrite.ensures in
    rw (read_by _ _ c.in-Some.ensures _ _, rewrite_by _ _ c.in-Some.ensures _ _ _) (record { answer = c.from-2.ensures ∙ ap reading_for written.answer; output = written.output; words = written.words })
