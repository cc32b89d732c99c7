-- How an answer of the panel's calls lies in one 64-bit number.
use Rattle.std.specs.Prelude.{ℕ, ◌/◌, ◌%◌, ◌^◌}
use Rattle.format.specs.Outcome.{Outcome, fault, done, number_of, place_of, or_zero}

pub record Parts : Type 0 where
  pub number : ℕ
  pub place : ℕ
  pub amount : ℕ

-- from the lowest bits up: 8 of the number, 24 of a place or a first byte, and 32 of rows or a width
unfoldable pub parts_of : ℕ → Parts
parts_of answer = record { number = answer % 2 ^ 8; place = answer / 2 ^ 8 % 2 ^ 24; amount = answer / 2 ^ 32 }

-- number and place
unfoldable pub number_and_place_parts : ℕ × ℕ → Parts
number_and_place_parts (n, p) = record { number = n; place = p; amount = 0 }

-- number and place, and the rows needed
unfoldable pub rows_parts : Outcome ℕ → Parts
rows_parts o = record { number = number_of o; place = place_of o; amount = or_zero o }

-- a slot's first byte and width; a refusal's number without its place
unfoldable pub slot_parts : Outcome (ℕ × ℕ) → Parts
slot_parts (fault n p) = record { number = n; place = 0; amount = 0 }
slot_parts (done (first, wide)) = record { number = 0; place = first; amount = wide }
