-- What the integer leaves answer.
use Rattle.std.specs.Prelude.{ℕ, ◌≤◌, ◌&&◌, List, length, leb, Result, Ok, Err}
use Rattle.format.specs.Conditions.{when◌then◌else◌}
use Rattle.format.specs.Outcome as Outcome
use Rattle.format.specs.Outcome.{done}
use Rattle.format.specs.Bytes.{little, bytes, within}
use Rattle.format.specs.Answers.{refused}
use Rattle.format.specs.declared.refusals.Refused.{Refused}
use Rattle.scan.specs.declared.integers.Parsed.{Parsed}

-- the number of so many bytes, or 0 where they aren't all there or don't fit 64 bits
unfoldable pub little_at : List ℕ → ℕ → ℕ → ℕ
little_at m at w = when leb w 8 && within (length m) at w then little (bytes m at w) else 0

-- the number and the place after it; or 01's number and place
abbrev pub parsed : Result Parsed Refused → Outcome.Parsed ℕ
parsed (Ok i) = done (i.number, i.next)
parsed (Err r) = refused r

-- the number is not over the highest, and the place after it lies between
abbrev pub Bounded : Result Parsed Refused → ℕ → ℕ → ℕ → Type 0
Bounded (Ok i) highest from end = (i.number ≤ highest) × (from ≤ i.next) × (i.next ≤ end)
Bounded (Err r) highest from end = Unit {0}
