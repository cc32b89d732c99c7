-- What the row of a token writes of it in house form. A token with none below it is written whole, but for an extension; of the others,
-- what stands before those below it, and what after them. A table has its schema below it, then something between, then its dimensions.
-- An extension is written as these are: its mark, none below it, and then the rest.
use Rattle.std.specs.Prelude.{ℕ, Bool, List, [], ◌∷◌, ◌++◌, eqb}
use Rattle.format.specs.Conditions.{when◌then◌else◌, among}
use Rattle.format.specs.Marks.{opening_of, closes, letter_of, 'S', '#', '$', '['}
use Rattle.format.specs.Tokens.{kind_number, scalar, text, high_precision, key, array, object, packed, table, leaf, schema_record, dimension, extension}
use Rattle.format.specs.Rows.{Row}
use Rattle.format.specs.Bytes.{bytes}
use Rattle.format.specs.Extensions.{id_bytes}
use Rattle.format.specs.HouseForm.{small_integer}
use Rattle.pieces.specs.Shapes.{shape_start, shape_end}

-- `$`, under a name that a clause can import
abbrev pub dollar_sign : ℕ
dollar_sign = '$'

-- the kinds of tokens that are written whole
unfoldable pub is_single : ℕ → Bool
is_single = among (kind_number scalar ∷ kind_number text ∷ kind_number high_precision ∷ kind_number key ∷ kind_number leaf ∷ kind_number dimension ∷ [])

-- arrays and objects
unfoldable pub is_list : ℕ → Bool
is_list = among (kind_number array ∷ kind_number object ∷ [])

-- before those below it
unfoldable pub head : Row → List ℕ
head r =
    when is_list r.kind then letter_of r.mark ∷ '#' ∷ small_integer r.count else
    when eqb r.kind (kind_number packed) then '[' ∷ '$' ∷ letter_of r.mark ∷ '#' ∷ shape_start r.order r.count else
    when eqb r.kind (kind_number table) then letter_of r.mark ∷ '$' ∷ [] else
    letter_of r.mark ∷ []

-- of a table, between its schema and its dimensions
unfoldable pub middle : Row → List ℕ
middle r = '#' ∷ shape_start r.order r.count

module _ (m : List ℕ) where
  -- the bytes of its payload
  unfoldable pub payload_at : Row → List ℕ
  payload_at r = bytes m r.payload r.extent

  -- a token that is written whole
  unfoldable pub single : Row → List ℕ
  single r =
      when eqb r.kind (kind_number scalar) then letter_of r.mark ∷ payload_at r else
      when eqb r.kind (kind_number key) then small_integer r.extent ++ payload_at r else
      when eqb r.kind (kind_number leaf) then letter_of r.mark ∷ (when eqb (letter_of r.mark) 'S' then small_integer r.extent else []) else
      when eqb r.kind (kind_number dimension) then small_integer r.count else
      letter_of r.mark ∷ small_integer r.extent ++ payload_at r

  -- after those below it
  unfoldable pub tail : Row → List ℕ
  tail r =
      when is_list r.kind then [] else
      when among (kind_number packed ∷ kind_number table ∷ []) r.kind then shape_end r.order ++ payload_at r else
      when eqb r.kind (kind_number extension) then id_bytes m r.first ++ (small_integer r.extent ++ payload_at r) else
      closes (opening_of (eqb r.kind (kind_number schema_record))) ∷ []
