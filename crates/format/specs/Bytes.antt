-- The bytes of a message. Places count from 0.
use Rattle.std.specs.Prelude.{ℕ, suc, ◌+◌, ◌*◌, Bool, List, [], ◌∷◌, length, get_or, take, drop, leb, ltb, eqb}
use Rattle.format.specs.Conditions.{when◌then◌else◌}
use Rattle.format.specs.Outcome.{Outcome, done, ◌>>=◌, ◌>>◌, guard}
use Rattle.format.specs.Refusals.{ends_too_early, not_allowed}
use Rattle.format.specs.Marks.{'N'}

-- the number of some bytes, little-endian
unfoldable pub little : List ℕ → ℕ
little [] = 0
little (b ∷ bs) = b + 256 * little bs

-- how many `N` the bytes begin with
unfoldable pub leading_noops : List ℕ → ℕ
leading_noops [] = 0
leading_noops (b ∷ bs) = when eqb b 'N' then suc (leading_noops bs) else 0

-- n bytes from a place lie inside a message of so many bytes, in whole numbers
unfoldable pub within : ℕ → ℕ → ℕ → Bool
within message_bytes start n = leb (start + n) message_bytes

module _ (m : List ℕ) where
  -- the n bytes from here
  unfoldable pub bytes : ℕ → ℕ → List ℕ
  bytes at n = take n (drop at m)

  -- past the `N` that stand here
  unfoldable pub skip : ℕ → ℕ
  skip at = at + leading_noops (drop at m)

  -- the message must reach to here
  unfoldable pub reach : ℕ → Outcome (Unit {0})
  reach end = guard (leb end (length m)) ends_too_early (length m)

  -- a byte must stand here
  unfoldable pub byte : ℕ → Outcome ℕ
  byte at = do
    guard (ltb at (length m)) ends_too_early (length m)
    done (get_or m at 0)

  -- a byte must stand here, and be one that is allowed
  unfoldable pub one_of : (ℕ → Bool) → ℕ → Outcome ℕ
  one_of allowed at = do
    b ← byte at
    guard (allowed b) not_allowed at
    done b
