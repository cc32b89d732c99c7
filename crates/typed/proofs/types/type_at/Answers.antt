-- `type_at`: byte by byte. Assumes nothing.
use mathlib.Core.Path.{sym}
use borrow.Author.Tests.{le-ltb, lt-ltb, eq-eqb, ne_eqb}
use Rattle.format.specs.Conditions.{when◌then◌else◌}
use Rattle.format.specs.Outcome.{◌>>=◌, ◌>>◌, guard}
use Rattle.format.specs.Bytes.{byte, one_of}
use Rattle.format.specs.Containers.{typed}
use Rattle.typed.proofs.types.type_at.Goals as goal

pub returns-then-end-place-clause-meets : goal.returns-then-end-place-clause-meets
unfolding typed one_of byte guard ◌>>=◌ ◌>>◌ when◌then◌else◌
returns-then-end-place-clause-meets c =
    λ lent o row. rw (le-ltb _ _ c.if-end-place.true)

pub returns-then-mark-eq-OBJECT-clause-meets : goal.returns-then-mark-eq-OBJECT-clause-meets
unfolding typed one_of byte guard ◌>>=◌ ◌>>◌ when◌then◌else◌
returns-then-mark-eq-OBJECT-clause-meets c =
    λ lent o row. rw (lt-ltb _ _ c.if-end-place.false, eq-eqb _ _ c.if-mark-eq-OBJECT.true)

pub returns-then-not-is_type-clause-meets : goal.returns-then-not-is_type-clause-meets
unfolding typed one_of byte guard ◌>>=◌ ◌>>◌ when◌then◌else◌
returns-then-not-is_type-clause-meets c =
    λ lent o row. rw (lt-ltb _ _ c.if-end-place.false, ne_eqb _ _ c.if-mark-eq-OBJECT.false, ← c.is_type.ensures, c.if-not-is_type.true)

pub returns-then-end-after-clause-meets : goal.returns-then-end-after-clause-meets
unfolding typed one_of byte guard ◌>>=◌ ◌>>◌ when◌then◌else◌
returns-then-end-after-clause-meets c =
    λ lent o row. rw (lt-ltb _ _ c.if-end-place.false, ne_eqb _ _ c.if-mark-eq-OBJECT.false, ← c.is_type.ensures, c.if-not-is_type.false, le-ltb _ _ c.if-end-after.true)

pub returns-then-message-after-ne-COUNT-clause-meets : goal.returns-then-message-after-ne-COUNT-clause-meets
unfolding typed one_of byte guard ◌>>=◌ ◌>>◌ when◌then◌else◌
returns-then-message-after-ne-COUNT-clause-meets c =
    λ lent o row. rw (lt-ltb _ _ c.if-end-place.false, ne_eqb _ _ c.if-mark-eq-OBJECT.false, ← c.is_type.ensures, c.if-not-is_type.false, lt-ltb _ _ c.if-end-after.false, ne_eqb _ _ (λ q. c.if-message-after-ne-COUNT.true (sym q)))

pub returns-clause-meets : goal.returns-clause-meets
unfolding typed one_of byte guard ◌>>=◌ ◌>>◌ when◌then◌else◌
returns-clause-meets c =
    λ lent o row. rw (lt-ltb _ _ c.if-end-place.false, ne_eqb _ _ c.if-mark-eq-OBJECT.false, ← c.is_type.ensures, c.if-not-is_type.false, lt-ltb _ _ c.if-end-after.false, eq-eqb _ _ (sym c.if-message-after-ne-COUNT.false))
