-- `put_single`: by the kind. Assumes nothing.
use borrow.Author.Tests.{ne_eqb}
use Rattle.format.specs.Conditions.{when◌then◌else◌}
use Rattle.writer.specs.Pieces.{payload_at, single}
use Rattle.writer.proofs.by_row.put_single.Goals as goal

pub returns-then-kind-number : goal.returns-then-kind-number
unfolding single payload_at when◌then◌else◌
returns-then-kind-number c =
    rw (rw c.number.ensures at c.if-kind-number.true, ← c.of-letter.ensures, ← c.part-payload.ensures) c.put_scalar.ensures

pub returns-then-kind-number-2 : goal.returns-then-kind-number-2
unfolding single payload_at when◌then◌else◌
returns-then-kind-number-2 c =
    rw (rw c.number-2.ensures at c.if-kind-number-2.true, ← c.part-payload.ensures) c.put_key.ensures

pub returns-then-kind-number-3 : goal.returns-then-kind-number-3
unfolding single payload_at when◌then◌else◌
returns-then-kind-number-3 c =
    rw (rw c.number-3.ensures at c.if-kind-number-3.true, ← c.of-letter.ensures) c.put_leaf.ensures

pub returns-then-kind-number-4 : goal.returns-then-kind-number-4
unfolding single payload_at when◌then◌else◌
returns-then-kind-number-4 c =
    rw (rw c.number-4.ensures at c.if-kind-number-4.true) c.put_integer.ensures

pub returns : goal.returns
unfolding single payload_at when◌then◌else◌
returns c =
    rw (ne_eqb _ _ (rw c.number.ensures at c.if-kind-number.false), ne_eqb _ _ (rw c.number-2.ensures at c.if-kind-number-2.false), ne_eqb _ _ (rw c.number-3.ensures at c.if-kind-number-3.false), ne_eqb _ _ (rw c.number-4.ensures at c.if-kind-number-4.false), ← c.of-letter.ensures, ← c.part-payload.ensures) c.put_text.ensures
