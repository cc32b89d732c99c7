-- `pass`: each way past a member. Assumes nothing.
use mathlib.Core.Path.{sym, ap, ◌∙◌}
use native.Mathlib.Omega.{arith}
use borrow.Author.Tests.{eq-eqb, ne_eqb}
use Rattle.ways.proofs.Exits.{passed_on}
use Rattle.format.specs.Answers.{found}
use Rattle.format.specs.Addresses.{is_leaf_row}
use Rattle.ways.proofs.Along.{went}
use Rattle.ways.proofs.Fields.{pass_refused, pass_before, pass_after, pass_leaf, pass_inside, pass_wrong, agrees}
use Rattle.ways.proofs.members.pass.Goals as goal
use Rattle.ways.proofs.members.pass.Goals.{then-leaf-here-via-then-leaf-here, then-leaf-here-via-else-leaf-here+then-next-leaf}

pub returns-in_err-next : goal.returns-in_err-next
returns-in_err-next c =
    rw (passed_on _ _ c.from_residual.ensures.1) (pass_refused _ _ _ _ _ _ (sym c.along_child.ensures ∙ ap found c.in_err-next.was))

pub returns-then-leaf-here : goal.returns-then-leaf-here
returns-then-leaf-here c =
    let e = sym c.along_child.ensures ∙ ap found c.in_ok-next.was in
    elim c.then-leaf-here.branch [
      | then-leaf-here-via-then-leaf-here w ↦ pass_before _ _ _ _ _ _ e w.if-leaf-here.true
      | then-leaf-here-via-else-leaf-here+then-next-leaf w ↦ pass_after _ _ _ _ _ _ e w.if-next-leaf.true
    ]

pub returns-then-fits-found : goal.returns-then-fits-found
returns-then-fits-found c =
    let e = sym c.along_child.ensures ∙ ap found c.in_ok-next.was in
    let f = went _ _ _ _ c.along_child.ensures _ c.in_ok-next.was in
    let there = ap is_leaf_row (c.load.ensures.there (omega (arith, f.before, c.requires))) in
    pass_wrong _ _ _ _ _ _ e c.if-leaf-here.false c.if-next-leaf.false (rw (c.fits.ensures, there) at c.if-fits-found.true)

pub returns-then-found : goal.returns-then-found
returns-then-found c =
    let e = sym c.along_child.ensures ∙ ap found c.in_ok-next.was in
    let f = went _ _ _ _ c.along_child.ensures _ c.in_ok-next.was in
    let there = ap is_leaf_row (c.load.ensures.there (omega (arith, f.before, c.requires))) in
    pass_leaf _ _ _ _ _ _ e c.if-found.true (sym there ∙ sym c.fits.ensures ∙ agrees _ _ c.if-fits-found.false ∙ eq-eqb _ _ c.if-found.true)

pub returns-else-found : goal.returns-else-found
returns-else-found c =
    let e = sym c.along_child.ensures ∙ ap found c.in_ok-next.was in
    let f = went _ _ _ _ c.along_child.ensures _ c.in_ok-next.was in
    let there = ap is_leaf_row (c.load.ensures.there (omega (arith, f.before, c.requires))) in
    pass_inside _ _ _ _ _ _ e c.if-found.false c.if-leaf-here.false c.if-next-leaf.false (sym there ∙ sym c.fits.ensures ∙ agrees _ _ c.if-fits-found.false ∙ ne_eqb _ _ c.if-found.false)
