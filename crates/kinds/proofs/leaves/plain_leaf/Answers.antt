-- `plain_leaf`: a row must be left. Assumes nothing.
use native.Mathlib.Omega.{arith}
use borrow.Author.Tests.{lt-ltb, le-ltb}
use Rattle.format.specs.Outcome.{◌>>◌, guard}
use Rattle.format.specs.Sequences.{row_left}
use Rattle.format.specs.Schemas.{plain_leaf}
use Rattle.kinds.proofs.Cases.{leaf_few}
use Rattle.kinds.proofs.leaves.plain_leaf.Goals as goal

pub returns-then-lent-row-clause-meets : goal.returns-then-lent-row-clause-meets
unfolding plain_leaf row_left guard ◌>>◌
returns-then-lent-row-clause-meets c = rw (le-ltb _ _ c.if-lent-row.true)

pub leaf-requires : goal.leaf-requires
leaf-requires c =
    let w = c.leaf_width-width.ensures in omega (arith, leaf_few c.args.mark)

pub returns-clause-meets : goal.returns-clause-meets
unfolding plain_leaf row_left guard ◌>>◌
returns-clause-meets c =
    rw (lt-ltb _ _ c.if-lent-row.false, ← c.leaf_width-width.ensures) c.leaf.ensures.meets
