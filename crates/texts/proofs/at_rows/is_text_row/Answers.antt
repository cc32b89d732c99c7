-- `is_text_row`: by the kind, then the mark. Assumes nothing.
use Rattle.texts.proofs.TextCases.{no_kind, of_text, of_high_precision, of_key, of_other}
use Rattle.texts.proofs.at_rows.is_text_row.Goals as goal

pub returns-in_default : goal.returns-in_default
returns-in_default c = no_kind _ c.in_default.ensures

pub returns-in-Text : goal.returns-in-Text
returns-in-Text c = of_text _ (rw c.in-Text.is at c.in-Ok.ensures)

pub returns-in-HighPrecision : goal.returns-in-HighPrecision
returns-in-HighPrecision c = of_high_precision _ (rw c.in-HighPrecision.is at c.in-Ok.ensures)

pub returns-in-Key : goal.returns-in-Key
returns-in-Key c = of_key _ (rw c.in-Key.is at c.in-Ok.ensures)

pub returns-in_default-kind : goal.returns-in_default-kind
returns-in_default-kind c = of_other _ _ c.in-Ok.ensures c.in_default-kind.not-Text c.in_default-kind.not-HighPrecision c.in_default-kind.not-Key
