-- What stands before the payload of an extension: how the code's answer stands to the definition.
use Rattle.std.specs.Prelude.{ℕ, ◌≤◌, ◌<◌, ◌≡◌, List, Result, Ok, Err}
use Rattle.format.specs.Outcome.{done, ◌>>=◌}
use Rattle.format.specs.Limits.{limit, id_limit}
use Rattle.format.specs.Marks.{'E'}
use Rattle.format.specs.Tokens.{alone}
use Rattle.format.specs.Answers.{refused}
use Rattle.format.specs.Content.{payload_end}
use Rattle.format.specs.Extensions.{extension, extension_token}
use Rattle.format.specs.declared.refusals.Refused.{Refused}
use Rattle.extensions.specs.declared.Head.{Head}

-- where a row is left: the extension's refusal, or what is left to read, its payload
abbrev pub HeadMeets : Result Head Refused → List ℕ → ℕ → Type 0
HeadMeets (Err r) m at = (lent row : ℕ) → row < lent → extension m lent at row ≡ refused r
HeadMeets (Ok h) m at = (lent row : ℕ) → row < lent
    → extension m lent at row ≡ (payload_end m 'E' h.start h.size >>= λ next. done (alone (extension_token h.id at h.start h.size), next))

-- id and length are within their limits, and the payload's first byte lies between
abbrev pub HeadWithin : Result Head Refused → ℕ → ℕ → Type 0
HeadWithin (Err r) low high = Unit {0}
HeadWithin (Ok h) low high = (h.id ≤ id_limit) × (h.size ≤ limit) × (low < h.start) × (h.start ≤ high)
