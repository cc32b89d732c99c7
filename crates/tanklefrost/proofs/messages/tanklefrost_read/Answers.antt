-- `tanklefrost_read`: as the reader answers by the edition named; else all words are cleared. Assumes nothing.
use mathlib.Core.Path.{ap, ◌∙◌}
use Rattle.format.specs.Outcome.{number_of, place_of, or_zero}
use Rattle.format.specs.Read.{rows_used, words_after}
use Rattle.structs.specs.Answers.{reading_for}
use Rattle.tanklefrost.proofs.Numbered.{read_by, read_by_none}
use Rattle.tanklefrost.proofs.messages.tanklefrost_read.Goals as goal

pub returns-in_default : goal.returns-in_default
unfolding rows_used words_after number_of place_of or_zero
returns-in_default c =
    rw (read_by_none _ c.in_default.ensures _ _) (record { answer = c.from.ensures; words = c.clear.ensures })

pub returns : goal.returns
returns c =
    let read = c.read.ensures in
    rw (read_by _ _ c.in-Some.ensures _ _) (record { answer = c.from-2.ensures ∙ ap reading_for read.answer; words = read.words })
