-- 01, "Rows", and request No. 8: the rows of a forest, the layout of a row, and the lent words that hold them.
use Rattle.std.specs.Prelude.{ℕ, suc, ◌+◌, ◌-◌, ◌*◌, ◌/◌, List, [], ◌∷◌, ◌++◌, length, get_or, replicate}
use Rattle.format.specs.Tokens.{Token, kind_number, Forest, none, node, size}

-- a row: its words by name. `link` is the row after the token's last descendant
pub record Row : Type 0 where
  pub kind : ℕ
  pub mark : ℕ
  pub first : ℕ
  pub payload : ℕ
  pub extent : ℕ
  pub count : ℕ
  pub link : ℕ
  pub order : ℕ
  pub parent : ℕ
  pub depth : ℕ

-- a token's ancestry: its parent's row plus one, 0 for the outermost; and its depth, 0 for the outermost
pub record Ancestry : Type 0 where
  pub parent : ℕ
  pub depth : ℕ

-- that of the outermost token
abbrev pub outermost : Ancestry
outermost = record { parent = 0; depth = 0 }

-- that of the tokens that the token of a row holds: one deeper
unfoldable pub held_by : ℕ → Ancestry → Ancestry
held_by row a = record { parent = row + 1; depth = a.depth + 1 }

-- how many words a row has
abbrev pub row_words : ℕ
row_words = 10

-- a row's words in their order
unfoldable pub layout : Row → List ℕ
layout r = r.kind ∷ r.mark ∷ r.first ∷ r.payload ∷ r.extent ∷ r.count ∷ r.link ∷ r.order ∷ r.parent ∷ r.depth ∷ []

-- the way back: word k of a row of lent words
unfoldable pub word : List ℕ → ℕ → ℕ → ℕ
word ws row k = get_or ws (row * row_words + k) 0

-- and the row
unfoldable pub row_at : List ℕ → ℕ → Row
row_at ws row = record {
  kind = word ws row 0;
  mark = word ws row 1;
  first = word ws row 2;
  payload = word ws row 3;
  extent = word ws row 4;
  count = word ws row 5;
  link = word ws row 6;
  order = word ws row 7;
  parent = word ws row 8;
  depth = word ws row 9;
}

-- how many rows lent words have: a remainder holds none
unfoldable pub rows_in : List ℕ → ℕ
rows_in ws = length ws / row_words

-- a token's row, with its link and its ancestry
unfoldable pub row_of : Token → ℕ → Ancestry → Row
row_of t link a = record {
  kind = kind_number t.kind;
  mark = t.mark;
  first = t.first;
  payload = t.payload;
  extent = t.extent;
  count = t.count;
  link = link;
  order = t.order;
  parent = a.parent;
  depth = a.depth;
}

-- the rows of a forest from row n on, in message order; a is the ancestry of the tokens that no other holds
unfoldable pub rows : ℕ → Ancestry → Forest → List Row
rows n a none = []
rows n a (node t below after) =
    row_of t (suc n + size below) a ∷ rows (suc n) (held_by n a) below ++ rows (suc n + size below) a after

-- the words of rows, one row after another
unfoldable pub words_of : List Row → List ℕ
words_of [] = []
words_of (r ∷ rs) = layout r ++ words_of rs

-- the rows of a whole message
unfoldable pub all_rows : Forest → List Row
all_rows f = rows 0 outermost f

-- and their words
unfoldable pub all_words : Forest → List ℕ
all_words f = words_of (all_rows f)

-- so many words or bytes, all zero
abbrev pub zeros : ℕ → List ℕ
zeros lent = replicate lent 0

-- so many lent words or bytes with these at their front: what isn't filled is zero
unfoldable pub filled : ℕ → List ℕ → List ℕ
filled lent front = front ++ zeros (lent - length front)
