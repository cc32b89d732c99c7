-- `class_of`: the tests of the definition, in their order. Assumes nothing.
use borrow.Author.Tests.{lt-ltb, eq-eqb, ne_eqb}
use Rattle.format.specs.Conditions.{when◌then◌else◌}
use Rattle.format.specs.Outcome.{◌>>=◌, ◌>>◌, guard}
use Rattle.format.specs.Bytes.{byte}
use Rattle.format.specs.Schemas.{kind_by}
use Rattle.kinds.proofs.starts.class_of.Goals as goal

pub returns-then-is_plain_leaf : goal.returns-then-is_plain_leaf
unfolding kind_by byte guard ◌>>◌ ◌>>=◌ when◌then◌else◌
returns-then-is_plain_leaf c =
    λ m lent inner at row h e. rw (lt-ltb _ _ h, e, ← c.is_plain_leaf.ensures, c.if-is_plain_leaf.true)

pub returns-then-mark-eq-TEXT : goal.returns-then-mark-eq-TEXT
unfolding kind_by byte guard ◌>>◌ ◌>>=◌ when◌then◌else◌
returns-then-mark-eq-TEXT c =
    λ m lent inner at row h e. rw (lt-ltb _ _ h, e, ← c.is_plain_leaf.ensures, c.if-is_plain_leaf.false, eq-eqb _ _ c.if-mark-eq-TEXT.true)

pub returns-then-mark-eq-HIGH_PRECISION : goal.returns-then-mark-eq-HIGH_PRECISION
unfolding kind_by byte guard ◌>>◌ ◌>>=◌ when◌then◌else◌
returns-then-mark-eq-HIGH_PRECISION c =
    λ m lent inner at row h e. rw (lt-ltb _ _ h, e, ← c.is_plain_leaf.ensures, c.if-is_plain_leaf.false, ne_eqb _ _ c.if-mark-eq-TEXT.false, eq-eqb _ _ c.if-mark-eq-HIGH_PRECISION.true)

pub returns-then-mark-eq-ARRAY : goal.returns-then-mark-eq-ARRAY
unfolding kind_by byte guard ◌>>◌ ◌>>=◌ when◌then◌else◌
returns-then-mark-eq-ARRAY c =
    λ m lent inner at row h e. rw (lt-ltb _ _ h, e, ← c.is_plain_leaf.ensures, c.if-is_plain_leaf.false, ne_eqb _ _ c.if-mark-eq-TEXT.false, ne_eqb _ _ c.if-mark-eq-HIGH_PRECISION.false, eq-eqb _ _ c.if-mark-eq-ARRAY.true)

pub returns-then-mark-eq-OBJECT : goal.returns-then-mark-eq-OBJECT
unfolding kind_by byte guard ◌>>◌ ◌>>=◌ when◌then◌else◌
returns-then-mark-eq-OBJECT c =
    λ m lent inner at row h e. rw (lt-ltb _ _ h, e, ← c.is_plain_leaf.ensures, c.if-is_plain_leaf.false, ne_eqb _ _ c.if-mark-eq-TEXT.false, ne_eqb _ _ c.if-mark-eq-HIGH_PRECISION.false, ne_eqb _ _ c.if-mark-eq-ARRAY.false, eq-eqb _ _ c.if-mark-eq-OBJECT.true)

pub returns : goal.returns
unfolding kind_by byte guard ◌>>◌ ◌>>=◌ when◌then◌else◌
returns c =
    λ m lent inner at row h e. rw (lt-ltb _ _ h, e, ← c.is_plain_leaf.ensures, c.if-is_plain_leaf.false, ne_eqb _ _ c.if-mark-eq-TEXT.false, ne_eqb _ _ c.if-mark-eq-HIGH_PRECISION.false, ne_eqb _ _ c.if-mark-eq-ARRAY.false, ne_eqb _ _ c.if-mark-eq-OBJECT.false)
