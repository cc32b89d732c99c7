-- `Mark::of`: by whether the word is a byte. Assumes nothing.
use mathlib.Core.Path.{refl}
use borrow.Author.Tests.{lt-ltb, le-ltb}
use Rattle.format.specs.Conditions.{when◌then◌else◌}
use Rattle.format.specs.Marks.{letter_of}
use Rattle.format.proofs.marks.Mark.of.Goals as goal

pub returns-then-word-lt256 : goal.returns-then-word-lt256
unfolding letter_of when◌then◌else◌
returns-then-word-lt256 c =
    rw (lt-ltb _ _ c.if-word-lt256.true) refl

pub returns : goal.returns
unfolding letter_of when◌then◌else◌
returns c =
    rw (le-ltb _ _ c.if-word-lt256.false) refl
