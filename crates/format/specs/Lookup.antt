-- Lookup by name: the first member with equal bytes, in an object or a schema record, in any words. 12 for a row, link or key
-- bytes that can't be followed, as the walk meets them; 10 if none is equal.
use Rattle.std.specs.Prelude.{ℕ, zero, suc, ◌+◌, Bool, true, ◌||◌, List, length, leb, ltb, eqb}
use Rattle.format.specs.Conditions.{when◌then◌else◌, same}
use Rattle.format.specs.Outcome.{Outcome, fault, done, ◌>>=◌, ◌>>◌, guard}
use Rattle.format.specs.Refusals.{not_there, rows_dont_fit}
use Rattle.format.specs.Marks.{left_brace}
use Rattle.format.specs.Tokens.{object, plain_count}
use Rattle.format.specs.Rows.{Row, row_at, rows_in}
use Rattle.format.specs.Bytes.{bytes, within}
use Rattle.format.specs.Addresses.{is_a, is_key, is_schema, along}

-- an object or a schema record
unfoldable pub has_names : Row → Bool
has_names r = is_a object (eqb left_brace) plain_count r || is_schema r

module _ (m ws name : List ℕ) where
  -- the members from a row up to the container's link. `fuel` is at least the number of rows between
  unfoldable pub find : ℕ → ℕ → ℕ → Outcome ℕ
  find zero stop row = fault not_there 0
  find (suc fuel) stop row = when leb stop row then fault not_there 0 else (do
    member ← along ws is_key stop row
    let k = row_at ws row
    guard (within (length m) k.payload k.extent) rows_dont_fit 0
    guard (ltb member stop) rows_dont_fit 0
    when same (bytes m k.payload k.extent) name then done member else (do
      next ← along ws (λ r. true) stop member
      find fuel stop next))

  -- the row of the first such member's value or kind
  unfoldable pub lookup : ℕ → Outcome ℕ
  lookup row = do
    stop ← along ws has_names (rows_in ws) row
    find (length ws) stop (row + 1)
