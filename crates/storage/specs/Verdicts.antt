-- What an address call answers in the rows of an accepted message: the slot that the cut in storage order gives, or the refusal.
use Rattle.std.specs.Prelude.{ℕ, ◌≡◌}
use mathlib.Core.List.{List, Memᴰ}
use Rattle.format.specs.Outcome.{Outcome, fault, done}
use Rattle.format.specs.Refusals.{not_there, rows_dont_fit}
use Rattle.format.specs.Tokens.{Token, Forest}
use Rattle.format.specs.Storage.{Slot, dimensions_of, storage}
use Rattle.format.specs.Addresses.{Region}
use Rattle.storage.specs.Addresses.{Address, indexes_of, address_of, region_of, Names, Below}

-- 12 if the address names no packed row, or no table row and leaf of its schema; then 10 for wrong number or range of indexes; else
-- the region of the slot that has this address in storage order
pub data Verdict (f : Forest) (a : Address) : Outcome Region → Type 0 where
  wrong_rows : ((row : ℕ) (t : Token) (below : Forest) → Names f a row t below → ⊥) → Verdict f a (fault rows_dont_fit 0)
  wrong_indexes : {row : ℕ} {t : Token} {below : Forest} → Names f a row t below → (Below (indexes_of a) (dimensions_of t below) → ⊥)
      → Verdict f a (fault not_there 0)
  answered : {row : ℕ} {t : Token} {below : Forest} {s : Slot (List ℕ)} → Names f a row t below → Below (indexes_of a) (dimensions_of t below)
      → Memᴰ s (storage row t below) → address_of row t s ≡ a → Verdict f a (done (region_of t s))
