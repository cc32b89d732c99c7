-- Where a text answer stands: inside the message, and in the message's own memory.
use Rattle.std.specs.Prelude.{ℕ, ◌+◌, ◌≤◌, Result, Ok, Err}
use Rattle.format.specs.Outcome.{Outcome, fault, done}
use Rattle.format.specs.Addresses.{Region}
use Rattle.format.specs.declared.answers.Span.{Span}
use Rattle.format.specs.declared.refusals.Refusal.{Refusal}

-- a place that is answered lies inside so many bytes
abbrev pub Inside : Result Span Refusal → ℕ → Type 0
Inside (Ok s) end = s.first + s.width ≤ end
Inside (Err r) end = Unit {0}

-- the pointer to the part: the message's, moved to the part's first byte; on refusal the message's. A pointer is a block of memory and
-- an offset in bytes
unfoldable pub pointer : ℕ × ℕ → Outcome Region → ℕ × ℕ
pointer p (fault n q) = p
pointer p (done s) = (p.0, s.first + p.1)
