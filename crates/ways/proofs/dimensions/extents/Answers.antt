-- `extents`: by the order. Assumes nothing.
use native.Mathlib.Omega.{arith}
use lib.ListN.{length-set}
use Rattle.ways.proofs.Extents.{plain_extent, shaped_extents}
use Rattle.ways.proofs.dimensions.extents.Goals as goal

pub returns-then-c-eq0 : goal.returns-then-c-eq0
returns-then-c-eq0 c =
    (plain_extent _ _ _ _ (c.load-c.ensures.there c.requires.0) c.if-c-eq0.true c.args.into.now c.requires.2, simp length-set (omega (arith, c.requires.2)), simp length-set c.requires.2)

pub returns : goal.returns
returns c =
    rw (shaped_extents _ _ _ _ (c.load-c.ensures.there c.requires.0) c.if-c-eq0.false) c.rows_from.ensures
