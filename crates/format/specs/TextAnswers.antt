-- Text, at rows of kinds 2 to 4 or an `S` slot. The answer is the part of the caller's message itself.
use Rattle.std.specs.Prelude.{ℕ, Bool, ◌&&◌, ◌||◌, List, [], length, ltb, eqb}
use Rattle.format.specs.Outcome.{Outcome, fault, done, ◌>>=◌, ◌>>◌, guard}
use Rattle.format.specs.Refusals.{rows_dont_fit}
use Rattle.format.specs.Marks.{'H', 'S'}
use Rattle.format.specs.Tokens.{Kind, kind_number, text, high_precision, key}
use Rattle.format.specs.Rows.{Row, row_at, rows_in}
use Rattle.format.specs.Bytes.{bytes, within}
use Rattle.format.specs.Addresses.{Region, table_slot}

-- a row of kind 2 with `S`, 3 with `H`, or 4 with `S`
unfoldable pub is_text_row : Row → Bool
is_text_row r = has text 'S' || (has high_precision 'H' || has key 'S')
  where
    has : Kind → ℕ → Bool
    has kind mark = eqb r.kind (kind_number kind) && eqb r.mark mark

module _ (m : List ℕ) where
  -- at a row
  unfoldable pub text_at_row : List ℕ → ℕ → Outcome Region
  text_at_row ws row = do
    let r = row_at ws row
    guard (ltb row (rows_in ws) && is_text_row r) rows_dont_fit 0
    guard (within (length m) r.payload r.extent) rows_dont_fit 0
    done (record { mark = r.mark; first = r.payload; wide = r.extent })

  -- at the slot of a table row, a leaf row and indexes
  unfoldable pub text_in_table : List ℕ → ℕ → ℕ → List ℕ → Outcome Region
  text_in_table ws row leaf_row is = do
    s ← table_slot ws (length m) row leaf_row is
    guard (eqb s.mark 'S') rows_dont_fit 0
    done s

  -- the part of the message, empty on refusal
  unfoldable pub part : Outcome Region → List ℕ
  part (fault n p) = []
  part (done s) = bytes m s.first s.wide
