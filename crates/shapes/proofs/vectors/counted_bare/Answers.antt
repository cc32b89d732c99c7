-- `counted_bare`: the mark, the `#`, and then what `counted` says. Assumes nothing.
use mathlib.Core.Path.{sym}
use native.Mathlib.Omega.{arith}
use borrow.Author.Tests.{lt-ltb, le-ltb, eq-eqb, ne_eqb}
use Rattle.format.specs.Outcome.{◌>>=◌, ◌>>◌, guard}
use Rattle.format.specs.Bytes.{byte, one_of}
use Rattle.format.specs.Dimensions.{counted_bare}
use Rattle.format.proofs.MarkFacts.{integer_wide}
use Rattle.shapes.proofs.vectors.counted_bare.Goals as goal

pub returns-then-end-at-clause-meets : goal.returns-then-end-at-clause-meets
unfolding counted_bare one_of byte guard ◌>>◌ ◌>>=◌
returns-then-end-at-clause-meets c = rw (le-ltb _ _ c.if-end-at.true)

pub returns-then-not-is_integer-clause-meets : goal.returns-then-not-is_integer-clause-meets
unfolding counted_bare one_of byte guard ◌>>◌ ◌>>=◌
returns-then-not-is_integer-clause-meets c =
    rw (lt-ltb _ _ c.if-end-at.false, ← c.is_integer.ensures, c.if-not-is_integer.true)

pub returns-then-end-second-clause-meets : goal.returns-then-end-second-clause-meets
unfolding counted_bare one_of byte guard ◌>>◌ ◌>>=◌
returns-then-end-second-clause-meets c =
    rw (lt-ltb _ _ c.if-end-at.false, ← c.is_integer.ensures, c.if-not-is_integer.false, le-ltb _ _ c.if-end-second.true)

pub returns-then-message-second-ne-COUNT-clause-meets : goal.returns-then-message-second-ne-COUNT-clause-meets
unfolding counted_bare one_of byte guard ◌>>◌ ◌>>=◌
returns-then-message-second-ne-COUNT-clause-meets c =
    rw (lt-ltb _ _ c.if-end-at.false, ← c.is_integer.ensures, c.if-not-is_integer.false, lt-ltb _ _ c.if-end-second.false, ne_eqb _ _ (λ q. c.if-message-second-ne-COUNT.true (sym q)))

pub counted-requires : goal.counted-requires
counted-requires c =
    (omega arith, integer_wide _ (rw (← c.is_integer.ensures) c.if-not-is_integer.false))

pub returns-clause-meets : goal.returns-clause-meets
unfolding counted_bare one_of byte guard ◌>>◌ ◌>>=◌
returns-clause-meets c =
    rw (lt-ltb _ _ c.if-end-at.false, ← c.is_integer.ensures, c.if-not-is_integer.false, lt-ltb _ _ c.if-end-second.false, eq-eqb _ _ (sym c.if-message-second-ne-COUNT.false)) c.counted.ensures.meets
