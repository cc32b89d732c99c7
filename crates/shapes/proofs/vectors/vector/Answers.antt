-- `vector`: by the byte after the `[`. Assumes nothing.
use borrow.Author.Tests.{lt-ltb, le-ltb, eq-eqb, ne_eqb}
use Rattle.format.specs.Conditions.{when◌then◌else◌}
use Rattle.format.specs.Outcome.{◌>>=◌, ◌>>◌, guard}
use Rattle.format.specs.Bytes.{byte}
use Rattle.format.specs.Dimensions.{vector}
use Rattle.shapes.proofs.vectors.vector.Goals as goal

pub returns-then-end-at-clause-meets : goal.returns-then-end-at-clause-meets
unfolding vector byte guard ◌>>◌ ◌>>=◌ when◌then◌else◌
returns-then-end-at-clause-meets c = rw (le-ltb _ _ c.if-end-at.true)

pub returns-then-b-eq-ARRAY_END-clause-meets : goal.returns-then-b-eq-ARRAY_END-clause-meets
unfolding vector byte guard ◌>>◌ ◌>>=◌ when◌then◌else◌
returns-then-b-eq-ARRAY_END-clause-meets c =
    rw (lt-ltb _ _ c.if-end-at.false, eq-eqb _ _ c.if-b-eq-ARRAY_END.true)

pub returns-then-b-eq-COUNT-clause-meets : goal.returns-then-b-eq-COUNT-clause-meets
unfolding vector byte guard ◌>>◌ ◌>>=◌ when◌then◌else◌
returns-then-b-eq-COUNT-clause-meets c =
    rw (lt-ltb _ _ c.if-end-at.false, ne_eqb _ _ c.if-b-eq-ARRAY_END.false, eq-eqb _ _ c.if-b-eq-COUNT.true) c.counted.ensures.meets

pub returns-then-b-eq-TYPE-clause-meets : goal.returns-then-b-eq-TYPE-clause-meets
unfolding vector byte guard ◌>>◌ ◌>>=◌ when◌then◌else◌
returns-then-b-eq-TYPE-clause-meets c =
    rw (lt-ltb _ _ c.if-end-at.false, ne_eqb _ _ c.if-b-eq-ARRAY_END.false, ne_eqb _ _ c.if-b-eq-COUNT.false, eq-eqb _ _ c.if-b-eq-TYPE.true) c.counted_bare.ensures.meets

pub returns-clause-meets : goal.returns-clause-meets
unfolding vector byte guard ◌>>◌ ◌>>=◌ when◌then◌else◌
returns-clause-meets c =
    rw (lt-ltb _ _ c.if-end-at.false, ne_eqb _ _ c.if-b-eq-ARRAY_END.false, ne_eqb _ _ c.if-b-eq-COUNT.false, ne_eqb _ _ c.if-b-eq-TYPE.false) c.listed.ensures.meets
