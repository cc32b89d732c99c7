-- `value_start`: by what the mark begins. Assumes nothing.
use mathlib.Core.Path.{sym, ap, ◌∙◌}
use Rattle.format.specs.Conditions.{when◌then◌else◌}
use Rattle.format.specs.Tokens.{is_kind, members}
use Rattle.items.specs.Items.{class_of}
use Rattle.items.proofs.ItemCases.{value_early, value_on, value_begins}
use Rattle.items.proofs.ItemLaws.{whole_meets, opened_here}
use Rattle.items.proofs.starts.value_start.Goals as goal

pub returns-then-end-at-clause-meets : goal.returns-then-end-at-clause-meets
unfolding value_on members is_kind when◌then◌else◌
returns-then-end-at-clause-meets c =
    (λ nested. value_early _ _ _ nested _ _ c.if-end-at.true)

pub returns-in-Scalar-clause-meets : goal.returns-in-Scalar-clause-meets
unfolding value_on members is_kind when◌then◌else◌
returns-in-Scalar-clause-meets c =
    let s = c.scalar in
    let b = (sym c.class_of.ensures ∙ ap class_of c.in-Scalar.is) in whole_meets s.result _ _ _ _ _ _ _ c.map.ensures.cases (λ nested. value_begins _ _ _ nested _ _ _ c.if-end-at.false b) s.ensures.meets

pub returns-in-Text-clause-meets : goal.returns-in-Text-clause-meets
unfolding value_on members is_kind when◌then◌else◌
returns-in-Text-clause-meets c =
    let s = c.text in
    let b = (sym c.class_of.ensures ∙ ap class_of c.in-Text.is) in whole_meets s.result _ _ _ _ _ _ _ c.map-in-Text.ensures.cases (λ nested. value_begins _ _ _ nested _ _ _ c.if-end-at.false b) s.ensures.meets

pub returns-in-HighPrecision-clause-meets : goal.returns-in-HighPrecision-clause-meets
unfolding value_on members is_kind when◌then◌else◌
returns-in-HighPrecision-clause-meets c =
    let s = c.text-in-HighPrecision in
    let b = (sym c.class_of.ensures ∙ ap class_of c.in-HighPrecision.is) in whole_meets s.result _ _ _ _ _ _ _ c.map-in-HighPrecision.ensures.cases (λ nested. value_begins _ _ _ nested _ _ _ c.if-end-at.false b) s.ensures.meets

pub returns-in-Bracket-clause-meets : goal.returns-in-Bracket-clause-meets
unfolding value_on members is_kind when◌then◌else◌
returns-in-Bracket-clause-meets c =
    opened_here _ _ _ _ _ _ (λ nested. value_begins _ _ _ nested _ _ _ c.if-end-at.false (sym c.class_of.ensures ∙ ap class_of c.in-Bracket.is))

pub returns-in-Brace-clause-meets : goal.returns-in-Brace-clause-meets
unfolding value_on members is_kind when◌then◌else◌
returns-in-Brace-clause-meets c =
    opened_here _ _ _ _ _ _ (λ nested. value_begins _ _ _ nested _ _ _ c.if-end-at.false (sym c.class_of.ensures ∙ ap class_of c.in-Brace.is))

pub returns-in-Extension-clause-meets : goal.returns-in-Extension-clause-meets
unfolding value_on members is_kind when◌then◌else◌
returns-in-Extension-clause-meets c =
    let s = c.extension in
    let b = (sym c.class_of.ensures ∙ ap class_of c.in-Extension.is) in whole_meets s.result _ _ _ _ _ _ _ c.map-in-Extension.ensures.cases (λ nested. value_begins _ _ _ nested _ _ _ c.if-end-at.false b) s.ensures.meets

pub returns-in-Other-clause-meets : goal.returns-in-Other-clause-meets
unfolding value_on members is_kind when◌then◌else◌
returns-in-Other-clause-meets c =
    (λ nested. value_begins _ _ _ nested _ _ _ c.if-end-at.false (sym c.class_of.ensures ∙ ap class_of c.in-Other.is))
