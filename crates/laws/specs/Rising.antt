-- Rows in the order of the message.
use Rattle.std.specs.Prelude.{ℕ, suc, ◌≤◌, ◌<◌, List, [], ◌∷◌}
use Rattle.format.specs.Rows.{Row}

-- the first bytes of rows (their words 2) rise strictly, from `low` on and below `high`
pub data Rising : ℕ → ℕ → List Row → Type 0 where
  no_row : {low high : ℕ} → Rising low high []
  next_row : {low high : ℕ} {r : Row} {rs : List Row} → low ≤ r.first → r.first < high → Rising (suc r.first) high rs → Rising low high (r ∷ rs)
