-- Rows stored one after another into lent words. Where the words have no such row nothing is stored, so this says what a full
-- table, a short one and an empty one hold.
use Rattle.std.specs.Prelude.{ℕ, suc, List, [], ◌∷◌}
use Rattle.format.specs.Rows as Rows
use Rattle.rows.specs.Row.{store}

unfoldable pub lay : List ℕ → ℕ → List Rows.Row → List ℕ
lay ws row [] = ws
lay ws row (r ∷ rs) = lay (store ws row r) (suc row) rs
