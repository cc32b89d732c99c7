-- The cases of a payload, and of the tokens that hold no others, in the order of their tests. Assumes nothing.
use Prim.Native.Nat.{ℕ, ◌+◌, ◌≤◌, ◌<◌}
use mathlib.Core.Path.{◌≡◌}
use mathlib.Core.Bool.{true, false}
use mathlib.Core.List.{List}
use lib.ListN.{length, get_or}
use borrow.Author.Tests.{le-leb, lt-leb, lt-ltb, le-ltb}
use Rattle.format.specs.Outcome.{Outcome, Parsed, fault, done, ◌>>=◌, ◌>>◌, guard}
use Rattle.format.specs.Limits.{limit}
use Rattle.format.specs.Refusals.{ends_too_early, wrong_content}
use Rattle.format.specs.Marks.{is_integer, width, 'S'}
use Rattle.format.specs.Tokens as Tokens
use Rattle.format.specs.Tokens.{Kind, Forest, alone, uncounted}
use Rattle.format.specs.Bytes.{bytes, reach, byte, one_of}
use Rattle.format.specs.Content.{is_content, content, payload_end}
use Rattle.format.specs.Integers.{number, integer}
use Rattle.format.specs.Sequences.{row_left}
use Rattle.format.specs.Scalars.{scalar, unmarked, text, key}

-- ---- a payload

module _ (m : List ℕ) (mark start n : ℕ) where
  pub payload_early : length m < start + n → payload_end m mark start n ≡ fault ends_too_early (length m)
  unfolding payload_end reach guard ◌>>◌
  payload_early h = rw (lt-leb _ _ h)

  module _ (there : start + n ≤ length m) where
    pub payload_wrong : is_content mark (bytes m start n) ≡ false → payload_end m mark start n ≡ fault wrong_content start
    unfolding payload_end reach content guard ◌>>◌
    payload_wrong e = rw (le-leb _ _ there, e)

    pub payload_done : is_content mark (bytes m start n) ≡ true → payload_end m mark start n ≡ done (start + n)
    unfolding payload_end reach content guard ◌>>◌
    payload_done e = rw (le-leb _ _ there, e)

-- ---- tokens, each from where a row must be left

-- a token with nothing below it, after its payload
unfoldable pub after : Kind → ℕ → ℕ → ℕ → ℕ → Outcome ℕ → Parsed Forest
after kind mark at start n end = end >>= (λ next. done (alone (uncounted kind mark at start n), next))

module _ (m : List ℕ) (lent at row : ℕ) where
  pub scalar-row : (mark start : ℕ) → row < lent → scalar m lent mark start at row ≡ after Tokens.scalar mark at start (width mark) (payload_end m mark start (width mark))
  unfolding scalar row_left guard ◌>>◌ after
  scalar-row mark start h = rw (lt-ltb _ _ h)

  pub unmarked_early : (mark : ℕ) → length m ≤ at → unmarked m lent mark at row ≡ fault ends_too_early (length m)
  unfolding unmarked byte guard ◌>>◌ ◌>>=◌
  unmarked_early mark h = rw (le-ltb _ _ h)

  pub unmarked_there : (mark : ℕ) → at < length m → unmarked m lent mark at row ≡ scalar m lent mark at at row
  unfolding unmarked byte guard ◌>>◌ ◌>>=◌
  unmarked_there mark h = rw (lt-ltb _ _ h)

  pub text_there_lem : (kind : Kind) (mark n start : ℕ) → row < lent → integer m (at + 1) ≡ done (n, start)
      → text m lent kind mark at row ≡ after kind mark at start n (payload_end m mark start n)
  unfolding text row_left guard ◌>>◌ ◌>>=◌ after
  text_there_lem kind mark n start h e = rw (lt-ltb _ _ h, e)

  module _ (there : at < length m) where
    module _ (marked : is_integer (get_or m at 0) ≡ true) where
      pub key_there : (n start : ℕ) → row < lent → number m limit (get_or m at 0) at (at + 1) ≡ done (n, start)
          → key m lent at row ≡ after Tokens.key 'S' at start n (payload_end m 'S' start n)
      unfolding key one_of byte row_left guard ◌>>◌ ◌>>=◌ after
      key_there n start h e = rw (lt-ltb _ _ there, marked, lt-ltb _ _ h, e)
