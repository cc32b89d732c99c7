-- One key of the walk over members.
use Rattle.std.specs.Prelude.{ℕ, List, length, ltb}
use Rattle.format.specs.Outcome.{Outcome, done, ◌>>=◌, ◌>>◌, guard}
use Rattle.format.specs.Refusals.{rows_dont_fit}
use Rattle.format.specs.Rows.{row_at}
use Rattle.format.specs.Bytes.{within}
use Rattle.format.specs.Addresses.{is_key, along}

-- the row of the member that a key goes with: the key's bytes lie inside the message, and the member stands before `stop`
unfoldable pub member_of : List ℕ → List ℕ → ℕ → ℕ → Outcome ℕ
member_of m ws stop key = do
  member ← along ws is_key stop key
  let k = row_at ws key
  guard (within (length m) k.payload k.extent) rows_dont_fit 0
  guard (ltb member stop) rows_dont_fit 0
  done member
