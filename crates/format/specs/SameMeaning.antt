-- 01, "House form": same meaning, 01's own term. Equal rows apart from words that go by the row's kind, and equal bytes in texts, keys,
-- scalars and the payloads of kinds 7 and 8. Request No. 1: of an extension its id, the id's mark and its payload.
-- Request No. 8: words 8 and 9 count in every row.
use Rattle.std.specs.Prelude.{ℕ, suc, ◌≡◌, Bool, List, [], ◌∷◌, map, eqb}
use Rattle.format.specs.Conditions.{when◌then◌else◌, among}
use Rattle.format.specs.Tokens.{kind_number, scalar, text, high_precision, key, array, object, packed, table, leaf, schema_record, fixed_array, dimension, extension}
use Rattle.format.specs.Rows.{Row, layout}
use Rattle.format.specs.Bytes.{bytes}
use Rattle.format.specs.Extensions.{id_bytes}

-- the words that may differ: 2, 3 and 4 of arrays and objects, 2 of kinds 9 to 11, 1 to 4 of dimensions, 2 and 3 of every other
unfoldable pub free : ℕ → List ℕ
free kind =
    when among (kind_number array ∷ kind_number object ∷ []) kind then 2 ∷ 3 ∷ 4 ∷ [] else
    when among (kind_number leaf ∷ kind_number schema_record ∷ kind_number fixed_array ∷ []) kind then 2 ∷ [] else
    when eqb kind (kind_number dimension) then 1 ∷ 2 ∷ 3 ∷ 4 ∷ [] else
    2 ∷ 3 ∷ []

-- words from the k-th on, with 0 for those that may differ
unfoldable pub kept : List ℕ → ℕ → List ℕ → List ℕ
kept differ k [] = []
kept differ k (w ∷ ws) = (when among differ k then 0 else w) ∷ kept differ (suc k) ws

-- the kinds whose payload's bytes count
unfoldable pub has_bytes : ℕ → Bool
has_bytes = among (kind_number scalar ∷ kind_number text ∷ kind_number high_precision ∷ kind_number key ∷ kind_number packed ∷ kind_number table ∷ kind_number extension ∷ [])

-- the kind that has an id
abbrev pub has_id : ℕ → Bool
has_id kind = eqb kind (kind_number extension)

-- what counts of a row of the message m: words, and bytes, and an extension's id with its mark
unfoldable pub row_meaning : List ℕ → Row → List ℕ × List ℕ × List ℕ
row_meaning m r = (
  kept (free r.kind) 0 (layout r),
  when has_bytes r.kind then bytes m r.payload r.extent else [],
  when has_id r.kind then id_bytes m r.first else [],
)

-- the rows of the message m and those of the message n have the same meaning
abbrev pub SameMeaning : List ℕ → List Row → List ℕ → List Row → Type 0
SameMeaning m rs n ss = map (row_meaning m) rs ≡ map (row_meaning n) ss
