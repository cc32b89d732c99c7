-- `is_a`: kind by kind. Assumes nothing.
use mathlib.Core.Logic.{inl, inr}
use borrow.Author.Tests.{ne_eqb}
use Rattle.format.specs.Addresses.{is_a, is_packed, is_table, is_key, is_leaf_row, is_schema, is_fixed, is_dimension}
use Rattle.format.specs.Marks.{'[', 'S', left_brace}
use Rattle.format.proofs.MarkFacts.{letter_type, letter_leaf, letter_integer}
use Rattle.ways.proofs.Letters.{eqb_comm, either}
use Rattle.ways.proofs.needs.is_a.Goals as goal
use Rattle.ways.proofs.needs.is_a.Goals.{then-bracket, else-bracket}

pub returns-in-Packed : goal.returns-in-Packed
unfolding is_a is_packed
returns-in-Packed c =
    rw (c.in-Packed.is, ← letter_type c.args.r.mark, ← c.of-mark.ensures, ← c.is_type.ensures) (rw c.in-Packed.is at c.has.ensures)

pub returns-after-bracket : goal.returns-after-bracket
unfolding is_a is_table
returns-after-bracket c =
    rw (c.in-Table.is, either c.args.r.mark '[' left_brace, eqb_comm '[' c.args.r.mark, eqb_comm left_brace c.args.r.mark)
    (elim c.if-bracket.branch [
      | then-bracket w ↦ rw w.if-bracket.true (rw (c.in-Table.is, w.has-is, w.if-bracket.true) at c.has-in-Table.ensures)
      | else-bracket w ↦ rw (ne_eqb c.args.r.mark '[' w.if-bracket.false) (rw (c.in-Table.is, w.has-is) at c.has-in-Table.ensures)
    ])

pub returns-in-Key : goal.returns-in-Key
unfolding is_a is_key
returns-in-Key c =
    rw (c.in-Key.is, eqb_comm 'S' c.args.r.mark) (rw c.in-Key.is at c.has-in-Key.ensures)

pub returns-in-Leaf : goal.returns-in-Leaf
unfolding is_a is_leaf_row
returns-in-Leaf c =
    rw (c.in-Leaf.is, ← letter_leaf c.args.r.mark, ← c.of-mark.ensures, ← c.is_leaf.ensures) (rw c.in-Leaf.is at c.has-in-Leaf.ensures)

pub returns-in-Object : goal.returns-in-Object
unfolding is_a is_schema
returns-in-Object c =
    elim c.in-Object.is [
      | inl e ↦ rw (e, eqb_comm left_brace c.args.r.mark) (rw e at c.has-in-Object.ensures)
      | inr e ↦ rw (e, eqb_comm left_brace c.args.r.mark) (rw e at c.has-in-Object.ensures)
    ]

pub returns-in-FixedArray : goal.returns-in-FixedArray
unfolding is_a is_fixed
returns-in-FixedArray c =
    rw (c.in-FixedArray.is, eqb_comm '[' c.args.r.mark) (rw c.in-FixedArray.is at c.has-in-FixedArray.ensures)

pub returns-in-Dimension : goal.returns-in-Dimension
unfolding is_a is_dimension
returns-in-Dimension c =
    rw (c.in-Dimension.is, ← letter_integer c.args.r.mark, ← c.of-mark.ensures, ← c.is_integer.ensures) (rw c.in-Dimension.is at c.has-in-Dimension.ensures)
