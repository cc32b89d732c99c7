-- Scalar values, at a row of kind 1 or a slot. Singles and doubles are given by their bits.
use Rattle.std.specs.Prelude.{ℕ, suc, ◌-◌, ◌^◌, Bool, ◌&&◌, List, length, get_or, ltb, eqb, ℤ, pos, negsuc}
use Rattle.format.specs.Conditions.{when◌then◌else◌}
use Rattle.format.specs.Outcome.{Outcome, done, ◌>>=◌, ◌>>◌, guard}
use Rattle.format.specs.Refusals.{rows_dont_fit}
use Rattle.format.specs.Marks.{is_integer, is_signed, is_scalar, is_boolean, width, leaf_width, 'B', 'C', 'D', 'T', 'd', 'h'}
use Rattle.format.specs.Content.{is_content}
use Rattle.format.specs.Tokens.{Kind, kind_number, scalar, packed, leaf}
use Rattle.format.specs.Rows.{row_at, rows_in}
use Rattle.format.specs.Bytes.{little, bytes, within}
use Rattle.format.specs.Integers.{is_negative}
use Rattle.format.specs.Half as Half
use Rattle.format.specs.Addresses.{Region, packed_slot, table_slot}

pub data Value : Type 0 where
  null : Value
  boolean : Bool → Value
  signed : ℤ → Value
  unsigned single double char byte : ℕ → Value

-- a value, with the token's kind kept beside it
pub record Scalar : Type 0 where
  pub kind : Kind
  pub value : Value

-- n under a signed mark, in two's complement
unfoldable pub twos_complement : ℕ → ℕ → ℤ
twos_complement mark n = when is_negative mark n then negsuc (256 ^ width mark - suc n) else pos n

-- the value of bytes under a mark. A boolean's letter is its byte or, where it carries nothing, its mark
unfoldable pub value_of : ℕ → List ℕ → Value
value_of mark bs =
    when is_signed mark then signed (twos_complement mark (little bs)) else
    when is_integer mark then unsigned (little bs) else
    when eqb mark 'h' then single (Half.single (little bs)) else
    when eqb mark 'd' then single (little bs) else
    when eqb mark 'D' then double (little bs) else
    when eqb mark 'C' then char (little bs) else
    when eqb mark 'B' then byte (little bs) else
    when is_boolean mark then boolean (eqb (get_or bs 0 mark) 'T') else null

module _ (m : List ℕ) where
  -- a scalar of this kind, whose mark asks for `due` bytes: mark, length, message's end, char or boolean
  unfoldable pub scalar_at : Kind → ℕ → Region → Outcome Scalar
  scalar_at kind due s = do
    guard (is_scalar s.mark && eqb s.wide due) rows_dont_fit 0
    guard (within (length m) s.first s.wide) rows_dont_fit 0
    let bs = bytes m s.first s.wide
    guard (is_content s.mark bs) rows_dont_fit 0
    done (record { kind = kind; value = value_of s.mark bs })

  -- at a row of kind 1
  unfoldable pub value_at_row : List ℕ → ℕ → Outcome Scalar
  value_at_row ws row = do
    let r = row_at ws row
    guard (ltb row (rows_in ws) && eqb r.kind (kind_number scalar)) rows_dont_fit 0
    scalar_at scalar (width r.mark) (record { mark = r.mark; first = r.payload; wide = r.extent })

  -- at the slot of a packed row and indexes
  unfoldable pub value_in_packed : List ℕ → ℕ → List ℕ → Outcome Scalar
  value_in_packed ws row is = do
    s ← packed_slot ws (length m) row is
    scalar_at packed (width s.mark) s

  -- at the slot of a table row, a leaf row and indexes
  unfoldable pub value_in_table : List ℕ → ℕ → ℕ → List ℕ → Outcome Scalar
  value_in_table ws row leaf_row is = do
    s ← table_slot ws (length m) row leaf_row is
    scalar_at leaf (leaf_width s.mark) s
