-- Storage order: a payload cut into slots, from its first byte without gaps. Elements and records are given in their order, each
-- by what names it: its number, or its indexes.
use Rattle.std.specs.Prelude.{ℕ, suc, ◌+◌, ◌*◌, List, [], ◌∷◌, ◌++◌, length, eqb}
use Rattle.format.specs.Conditions.{when◌then◌else◌}
use Rattle.format.specs.Marks.{Opening, bracket, brace, width, '['}
use Rattle.format.specs.Tokens.{Token, packed, table, leaf, is_kind, plain_count, Forest, none, node, size, below_first, after_first, counts}
use Rattle.format.specs.Records.{member_width, total_width}
use Rattle.format.specs.Indexes.{indexes}

-- the row of a table's first schema member: the schema's row comes between
abbrev pub member_row : ℕ → ℕ
member_row row = row + 2

-- a slot: the row of its leaf (of an element, the packed row), its element or record, its mark, its first byte counted from the
-- payload's first, and its width
pub record Slot (A : Type 0) : Type 0 where
  pub leaf_row : ℕ
  pub element : A
  pub mark : ℕ
  pub offset : ℕ
  pub wide : ℕ

-- values of w bytes end to end, one for each of a list, each cut further
unfoldable pub end_to_end : {A : Type 0} → List A → ℕ → (A → ℕ → List (Slot A)) → ℕ → List (Slot A)
end_to_end [] w cut at = []
end_to_end (a ∷ l) w cut at = cut a at ++ end_to_end l w cut (at + w)

-- a packed array, into elements
unfoldable pub elements : {A : Type 0} → ℕ → ℕ → List A → List (Slot A)
elements row mark l =
    end_to_end l (width mark) (λ a at. record { leaf_row = row; element = a; mark = mark; offset = at; wide = width mark } ∷ []) 0

-- one value of members, the first of which has row n, into leaves in schema order
unfoldable pub leaves : {A : Type 0} → ℕ → Forest → A → ℕ → List (Slot A)
leaves n none a at = []
leaves n (node t below after) a at =
    (when is_kind leaf t.kind then record { leaf_row = n; element = a; mark = t.mark; offset = at; wide = t.extent } ∷ [] else
    leaves (suc n) below a at)
    ++ leaves (suc n + size below) after a (at + member_width t)

-- a table by rows: into records, each into leaves
unfoldable pub by_rows : {A : Type 0} → ℕ → Forest → List A → List (Slot A)
by_rows n members l = end_to_end l (total_width members) (leaves n members) 0

-- a table by columns: into top-level fields, each into one value per record, each value into leaves
unfoldable pub by_columns : {A : Type 0} → ℕ → Forest → List A → ℕ → List (Slot A)
by_columns n none l at = []
by_columns n (node t below after) l at =
    end_to_end l (member_width t) (leaves n (node t below none)) at
    ++ by_columns (suc n + size below) after l (at + length l * member_width t)

-- a table's layout goes by its opening
unfoldable pub records : {A : Type 0} → Opening → ℕ → Forest → List A → List (Slot A)
records bracket n members l = by_rows n members l
records brace n members l = by_columns n members l 0

-- a table's layout by its mark: 91 by rows, 123 by columns
unfoldable pub layout_of : ℕ → Opening
layout_of mark = when eqb mark '[' then bracket else brace

-- the slots of the token at this row, given those below it and its elements or records: other kinds than 7 and 8 have none
unfoldable pub slots_of : {A : Type 0} → ℕ → Token → Forest → List A → List (Slot A)
slots_of row t under l =
    when is_kind packed t.kind then elements row t.mark l else
    when is_kind table t.kind then records (layout_of t.mark) (member_row row) (below_first under) l else []

-- what its indexes are for: word 5 for a plain count, else its dimensions, which in a table stand after the schema
unfoldable pub dimensions_of : Token → Forest → List ℕ
dimensions_of t under =
    when eqb t.order plain_count then t.count ∷ [] else
    when is_kind table t.kind then counts (after_first under) else counts under

-- its slots in storage order, each with its address: leaf row and indexes
unfoldable pub storage : ℕ → Token → Forest → List (Slot (List ℕ))
storage row t under = slots_of row t under (indexes t.order (dimensions_of t under))
