-- The content that goes with a mark: one rule for scalars, texts, packed arrays and tables.
use Rattle.std.specs.Prelude.{ℕ, ◌+◌, Bool, true, List, [], ◌∷◌, leb, eqb}
use Rattle.format.specs.Conditions.{when◌then◌else◌, all}
use Rattle.format.specs.Outcome.{Outcome, done, ◌>>=◌, ◌>>◌, guard}
use Rattle.format.specs.Refusals.{wrong_content}
use Rattle.format.specs.Marks.{is_boolean, 'C', 'H', 'S', 'T'}
use Rattle.format.specs.Text.{is_text}
use Rattle.format.specs.JsonNumber.{is_number}
use Rattle.format.specs.Storage.{Slot}
use Rattle.format.specs.Bytes.{bytes, reach}

-- text, high-precision number, char at most 127, boolean `T` or `F`; under another mark any bytes
unfoldable pub is_content : ℕ → List ℕ → Bool
is_content mark bs =
    when eqb mark 'S' then is_text bs else
    when eqb mark 'H' then is_number bs else
    when eqb mark 'C' then all (λ b. leb b 127) bs else
    when eqb mark 'T' then all is_boolean bs else true

module _ (m : List ℕ) where
  -- n bytes of content under a mark
  unfoldable pub content : ℕ → ℕ → ℕ → Outcome (Unit {0})
  content mark start n = guard (is_content mark (bytes m start n)) wrong_content start

  -- the content of each slot of the payload that starts here, in payload order
  unfoldable pub contents : ℕ → List (Slot ℕ) → Outcome (Unit {0})
  contents start [] = done tt
  contents start (s ∷ ss) = do
    _ ← content s.mark (start + s.offset) s.wide
    contents start ss

  -- a payload of n bytes: the message's end, then the content; the place after it
  unfoldable pub payload_end : ℕ → ℕ → ℕ → Outcome ℕ
  payload_end mark start n = do
    reach m (start + n)
    content mark start n
    done (start + n)
