-- The fields of a schema, the tokens that no other holds, and the words that hold the rows of a forest.
use Rattle.std.specs.Prelude.{ℕ, suc, ◌+◌, ◌≡◌, List, ◌++◌}
use Rattle.format.specs.Tokens.{Token, Forest, node, none, size}
use Rattle.format.specs.Rows.{Ancestry, held_by, row_at, row_of, all_words, zeros}
use Rattle.laws.specs.Places.{At}

-- the top-level field of a schema, at row k, that is the leaf at a row or holds it. The schema's first member is at row n
pub data Field : ℕ → Forest → ℕ → Token → ℕ → Token → Type 0 where
  own : {n leaf_row : ℕ} {t l : Token} {below after v : Forest} → At n (node t below none) leaf_row l v → Field n (node t below after) n t leaf_row l
  next : {n k leaf_row : ℕ} {t u l : Token} {below after : Forest} → Field (suc n + size below) after k t leaf_row l → Field n (node u below after) k t leaf_row l

-- a token of the forest that no other of it holds, at row k, and what stands under it. The forest's first token is at row n
pub data Top : ℕ → Forest → ℕ → Token → Forest → Type 0 where
  first_top : {n : ℕ} {t : Token} {below rest : Forest} → Top n (node t below rest) n t below
  later_top : {n k : ℕ} {t u : Token} {below rest v : Forest} → Top (suc n + size below) rest k u v → Top n (node t below rest) k u v

-- the words have the row of every token of a forest: the first is at row n, and its ancestry is a
pub data Rowed (ws : List ℕ) : ℕ → Ancestry → Forest → Type 0 where
  no_rows : {n : ℕ} {a : Ancestry} → Rowed ws n a none
  its_rows : {n : ℕ} {a : Ancestry} {t : Token} {below after : Forest} → row_at ws n ≡ row_of t (suc n + size below) a
      → Rowed ws (suc n) (held_by n a) below → Rowed ws (suc n + size below) a after → Rowed ws n a (node t below after)

-- words that hold the rows of a forest, and then zeros
pub record Filled (f : Forest) (ws : List ℕ) : Type 0 where
  pub spare : ℕ
  pub words_are : ws ≡ all_words f ++ zeros spare
