-- `is_digit`: by both its bounds. Assumes nothing.
use borrow.Author.Tests.{le-leb, lt-leb}
use Rattle.format.specs.Conditions.{between}
use Rattle.format.specs.JsonNumber as Json
use Rattle.content.proofs.json.is_digit.Goals as goal

pub returns-then-b-lt48 : goal.returns-then-b-lt48
unfolding Json.is_digit between
returns-then-b-lt48 c =
    simp (lt-leb _ _ c.if-b-lt48.true)

pub returns : goal.returns
unfolding Json.is_digit between
returns c =
    simp (le-leb _ _ c.if-b-lt48.false)
