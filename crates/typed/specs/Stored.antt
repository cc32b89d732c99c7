-- What the answer to a payload that is stored under a type stands for.
use Rattle.std.specs.Prelude.{ℕ, ◌+◌, ◌≤◌, Option, Some, None}
use Rattle.format.specs.Outcome.{Parsed, fault, done}
use Rattle.format.specs.Refusals.{wrong_content}
use Rattle.format.specs.Limits.{limit}
use Rattle.format.specs.Tokens.{Forest}
use Rattle.tokens.specs.declared.entry.Entry.{Entry}

-- what was read, if its content is right; or its first wrong place
abbrev pub checked : Option ℕ → Forest × ℕ → Parsed Forest
checked None r = done r
checked (Some p) r = fault wrong_content p

-- what its row holds is within the limits
pub record StoredWithin (e : Entry) (link : ℕ) : Type 0 where
  pub first : e.first ≤ limit
  pub inside : e.payload + e.extent ≤ limit
  pub count : e.count ≤ limit
  pub linked : link ≤ limit
