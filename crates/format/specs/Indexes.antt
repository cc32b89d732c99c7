-- Indexes and dimensions: how many elements there are, which indexes are in range, and their order in storage.
use Rattle.std.specs.Prelude.{ℕ, zero, suc, ◌+◌, ◌*◌, Bool, true, false, ◌&&◌, List, [], ◌∷◌, ◌++◌, map, ltb, eqb}
use Rattle.format.specs.Conditions.{when◌then◌else◌}
use Rattle.format.specs.Tokens.{first_fastest}

-- the product of dimensions, in whole numbers
unfoldable pub product : List ℕ → ℕ
product [] = 1
product (d ∷ ds) = d * product ds

-- one index for each dimension, below it
unfoldable pub in_range : List ℕ → List ℕ → Bool
in_range [] [] = true
in_range [] (i ∷ is) = false
in_range (d ∷ ds) [] = false
in_range (d ∷ ds) (i ∷ is) = ltb i d && in_range ds is

-- n numbers from k on
unfoldable pub count_from : ℕ → ℕ → List ℕ
count_from k zero = []
count_from k (suc n) = k ∷ count_from (suc k) n

-- the numbers below n
abbrev pub below : ℕ → List ℕ
below n = count_from 0 n

-- a list for each of a list, one after another
unfoldable pub each : {A B : Type 0} → List A → (A → List B) → List B
each [] f = []
each (a ∷ l) f = f a ++ each l f

-- all indexes that are in range, the last index moving fastest
unfoldable pub last_moving : List ℕ → List (List ℕ)
last_moving [] = [] ∷ []
last_moving (d ∷ ds) = each (below d) (λ i. map (λ is. i ∷ is) (last_moving ds))

-- the first index moving fastest
unfoldable pub first_moving : List ℕ → List (List ℕ)
first_moving [] = [] ∷ []
first_moving (d ∷ ds) = each (first_moving ds) (λ is. map (λ i. i ∷ is) (below d))

-- in storage order
unfoldable pub indexes : ℕ → List ℕ → List (List ℕ)
indexes order ds = when eqb order first_fastest then first_moving ds else last_moving ds

-- the number, from 0, of indexes in storage order, by a formula
unfoldable pub last_number : List ℕ → List ℕ → ℕ
last_number [] is = 0
last_number (d ∷ ds) [] = 0
last_number (d ∷ ds) (i ∷ is) = i * product ds + last_number ds is

unfoldable pub first_number : List ℕ → List ℕ → ℕ
first_number [] is = 0
first_number (d ∷ ds) [] = 0
first_number (d ∷ ds) (i ∷ is) = i + d * first_number ds is

unfoldable pub number_in : ℕ → List ℕ → List ℕ → ℕ
number_in order ds is = when eqb order first_fastest then first_number ds is else last_number ds is
