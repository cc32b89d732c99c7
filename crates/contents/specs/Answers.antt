-- What the check of a payload answers: the place of its first wrong slot, or none where it is right.
use Rattle.std.specs.Prelude.{ℕ, Option, Some, None}
use Rattle.format.specs.Outcome.{Outcome, fault, done}
use Rattle.format.specs.Refusals.{wrong_content}

abbrev pub checked_of : Option ℕ → Outcome (Unit {0})
checked_of None = done tt
checked_of (Some p) = fault wrong_content p
