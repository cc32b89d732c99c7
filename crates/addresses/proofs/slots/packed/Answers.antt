-- `packed`: the packed row, the indexes, and the place. Assumes nothing.
use mathlib.Core.Path.{sym, ap, ◌∙◌}
use native.Mathlib.Omega.{arith}
use Rattle.ways.proofs.Exits.{passed_on}
use Rattle.format.specs.Answers.{found}
use Rattle.format.specs.Rows.{rows_in}
use Rattle.format.proofs.MarkFacts.{width_few, letter_width}
use Rattle.ways.proofs.Along.{went}
use Rattle.addresses.proofs.SlotCases.{packed_unfit, packed_refused, packed_at}
use Rattle.addresses.proofs.slots.packed.Goals as goal

pub returns-in_err-along : goal.returns-in_err-along
returns-in_err-along c =
    let e = rw c.count.ensures at (sym c.along.ensures) ∙ ap found c.in_err-along.was in
    rw (passed_on _ _ c.from_residual.ensures.1) (packed_unfit _ _ _ _ _ e)

pub overflow_add-row : goal.overflow_add-row
unfolding rows_in
overflow_add-row c =
    let f = went _ _ _ _ c.along.ensures _ c.in_ok-along.was in omega (arith, f.before, c.count.ensures)

pub positioned-requires : goal.positioned-requires
positioned-requires c =
    let f = went _ _ _ _ c.along.ensures _ c.in_ok-along.was in (omega (arith, f.before, c.count.ensures), omega (arith, f.link, f.inside, c.count.ensures))

pub overflow_cast-wide : goal.overflow_cast-wide
overflow_cast-wide c =
    omega (arith, c.width-wide.ensures, width_few c.of.result.0)

pub returns-in_err-number : goal.returns-in_err-number
returns-in_err-number c =
    let e = rw c.count.ensures at (sym c.along.ensures) ∙ ap found c.in_ok-along.was in
    rw (passed_on _ _ c.from_residual-in_err-number.ensures.1) (packed_refused _ _ _ _ _ e _ (rw c.in_err-number.was at c.positioned.ensures))

pub returns : goal.returns
returns c =
    let e = rw c.count.ensures at (sym c.along.ensures) ∙ ap found c.in_ok-along.was in
    let f = went _ _ _ _ c.along.ensures _ c.in_ok-along.was in
    packed_at _ _ _ _ _ e _ (rw c.in_ok-number.was at c.positioned.ensures) _ (c.load-p.ensures.there (omega (arith, f.before, c.count.ensures))) (omega arith) _ (c.width-wide.ensures ∙ rw c.of.ensures (letter_width _)) _ c.start-from.ensures _ c.inside.ensures
