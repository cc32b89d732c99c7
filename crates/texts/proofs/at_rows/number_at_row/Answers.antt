-- `number_at_row`: a row, a text's kind and mark, the message's end. Assumes nothing.
use Prim.Native.Nat.{◌<◌}
use mathlib.Core.Path.{◌≡◌, sym, ◌∙◌}
use mathlib.Core.Bool.{true}
use Rattle.format.specs.Rows.{rows_in}
use Rattle.format.specs.TextAnswers.{is_text_row}
use Rattle.format.proofs.Parts.{inside}
use Rattle.rows.specs.Row.{row_of}
use Rattle.texts.proofs.TextCases.{no_row, no_text, outside, placed}
use Rattle.texts.proofs.at_rows.number_at_row.Goals as goal

pub returns-then-count-row-clause-is : goal.returns-then-count-row-clause-is
returns-then-count-row-clause-is c =
    no_row _ _ _ (rw (← c.count.ensures) c.if-count-row.true)

pub returns-then-not-is_text_row-clause-is : goal.returns-then-not-is_text_row-clause-is
returns-then-not-is_text_row-clause-is c =
    let there : c.args.row < rows_in c.args.rows.now = rw (← c.count.ensures) c.if-count-row.false in no_text _ _ _ (there) _ (c.load-r.ensures.there (there)) (sym c.is_text_row.ensures ∙ c.if-not-is_text_row.true)

pub returns-then-not-within-clause-is : goal.returns-then-not-within-clause-is
returns-then-not-within-clause-is c =
    let there : c.args.row < rows_in c.args.rows.now = rw (← c.count.ensures) c.if-count-row.false in
    let text : is_text_row (row_of c.load-r.result) ≡ true = sym c.is_text_row.ensures ∙ c.if-not-is_text_row.false in outside _ _ _ (there) _ (c.load-r.ensures.there (there)) (text) (sym c.within.ensures ∙ c.if-not-within.true)

pub returns-clause-is : goal.returns-clause-is
returns-clause-is c =
    let there : c.args.row < rows_in c.args.rows.now = rw (← c.count.ensures) c.if-count-row.false in
    let text : is_text_row (row_of c.load-r.result) ≡ true = sym c.is_text_row.ensures ∙ c.if-not-is_text_row.false in
    let w = sym c.within.ensures ∙ c.if-not-within.false in placed _ _ _ (there) _ (c.load-r.ensures.there (there)) (text) w

pub returns-clause-bounds : goal.returns-clause-bounds
returns-clause-bounds c =
    let there : c.args.row < rows_in c.args.rows.now = rw (← c.count.ensures) c.if-count-row.false in
    let text : is_text_row (row_of c.load-r.result) ≡ true = sym c.is_text_row.ensures ∙ c.if-not-is_text_row.false in
    let w = sym c.within.ensures ∙ c.if-not-within.false in inside c.args.message.now _ _ w
