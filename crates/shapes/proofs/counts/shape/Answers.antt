-- `shape`: by one byte or two. Assumes nothing.
use borrow.Author.Tests.{lt-ltb, le-ltb, eq-eqb, ne_eqb}
use Rattle.format.specs.Conditions.{when◌then◌else◌}
use Rattle.format.specs.Outcome.{◌>>=◌, ◌>>◌, guard}
use Rattle.format.specs.Bytes.{byte}
use Rattle.format.specs.Dimensions.{shape}
use Rattle.shapes.proofs.counts.shape.Goals as goal

pub returns-then-end-at-clause-meets : goal.returns-then-end-at-clause-meets
unfolding shape byte guard ◌>>◌ ◌>>=◌ when◌then◌else◌
returns-then-end-at-clause-meets c = rw (le-ltb _ _ c.if-end-at.true)

pub returns-then-message-at-ne-ARRAY-clause-meets : goal.returns-then-message-at-ne-ARRAY-clause-meets
unfolding shape byte guard ◌>>◌ ◌>>=◌ when◌then◌else◌
returns-then-message-at-ne-ARRAY-clause-meets c =
    rw (lt-ltb _ _ c.if-end-at.false, ne_eqb _ _ c.if-message-at-ne-ARRAY.true) (c.plain.ensures.meets _ _ _)

pub returns-then-end-second-clause-meets : goal.returns-then-end-second-clause-meets
unfolding shape byte guard ◌>>◌ ◌>>=◌ when◌then◌else◌
returns-then-end-second-clause-meets c =
    rw (lt-ltb _ _ c.if-end-at.false, eq-eqb _ _ c.if-message-at-ne-ARRAY.false, le-ltb _ _ c.if-end-second.true)

pub returns-then-message-second-ne-ARRAY-clause-meets : goal.returns-then-message-second-ne-ARRAY-clause-meets
unfolding shape byte guard ◌>>◌ ◌>>=◌ when◌then◌else◌
returns-then-message-second-ne-ARRAY-clause-meets c =
    rw (lt-ltb _ _ c.if-end-at.false, eq-eqb _ _ c.if-message-at-ne-ARRAY.false, lt-ltb _ _ c.if-end-second.false, ne_eqb _ _ c.if-message-second-ne-ARRAY.true) c.slowest.ensures.meets

pub returns-then-wraps-clause-meets : goal.returns-then-wraps-clause-meets
unfolding shape byte guard ◌>>◌ ◌>>=◌ when◌then◌else◌
returns-then-wraps-clause-meets c =
    rw (lt-ltb _ _ c.if-end-at.false, eq-eqb _ _ c.if-message-at-ne-ARRAY.false, lt-ltb _ _ c.if-end-second.false, eq-eqb _ _ c.if-message-second-ne-ARRAY.false, c.if-wraps.true) c.fastest.ensures.meets

pub returns-clause-meets : goal.returns-clause-meets
unfolding shape byte guard ◌>>◌ ◌>>=◌ when◌then◌else◌
returns-clause-meets c =
    rw (lt-ltb _ _ c.if-end-at.false, eq-eqb _ _ c.if-message-at-ne-ARRAY.false, lt-ltb _ _ c.if-end-second.false, eq-eqb _ _ c.if-message-second-ne-ARRAY.false, c.if-wraps.false) c.slowest-2.ensures.meets
