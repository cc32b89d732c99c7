-- `put_tail`: by the kind. Assumes nothing.
use borrow.Author.Tests.{eq-eqb, ne_eqb}
use Rattle.format.specs.Conditions.{when◌then◌else◌, among}
use Rattle.writer.specs.Pieces.{payload_at, tail}
use Rattle.pieces.proofs.Putting.{puts_none}
use Rattle.writer.proofs.by_row.put_tail.Goals as goal

pub returns-then-is_list : goal.returns-then-is_list
unfolding tail payload_at when◌then◌else◌ among
returns-then-is_list c =
    rw (← c.is_list.ensures, c.if-is_list.true) (puts_none _ _)

pub returns-then-r-number : goal.returns-then-r-number
unfolding tail payload_at when◌then◌else◌ among
returns-then-r-number c =
    rw (← c.is_list.ensures, c.if-is_list.false, (rw c.number.ensures at c.if-r-number.true)) c.put_payload.ensures

pub returns-then-r-number-2 : goal.returns-then-r-number-2
unfolding tail payload_at when◌then◌else◌ among
returns-then-r-number-2 c =
    rw (← c.is_list.ensures, c.if-is_list.false, (rw c.number-2.ensures at c.if-r-number-2.true)) c.put_payload-then-r-number-2.ensures

pub returns-then-r-number-3 : goal.returns-then-r-number-3
unfolding tail payload_at when◌then◌else◌ among
returns-then-r-number-3 c =
    rw (← c.is_list.ensures, c.if-is_list.false, ne_eqb _ _ (rw c.number.ensures at c.if-r-number.false), ne_eqb _ _ (rw c.number-2.ensures at c.if-r-number-2.false), eq-eqb _ _ (rw c.number-3.ensures at c.if-r-number-3.true)) c.put_extension.ensures

pub returns : goal.returns
unfolding tail payload_at when◌then◌else◌ among
returns c =
    rw (← c.is_list.ensures, c.if-is_list.false, ne_eqb _ _ (rw c.number.ensures at c.if-r-number.false), ne_eqb _ _ (rw c.number-2.ensures at c.if-r-number-2.false), ne_eqb _ _ (rw c.number-3.ensures at c.if-r-number-3.false)) (rw (← (rw c.number-4.ensures at c.closing_mark.ensures)) c.put.ensures)
