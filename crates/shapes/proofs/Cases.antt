-- The cases of so many dimensions, and of those listed. Assumes nothing.
use Prim.Native.Nat.{ℕ, zero, suc, ◌+◌, ◌-◌, ◌≤◌, ◌<◌}
use mathlib.Core.Path.{◌≡◌, refl}
use mathlib.Core.List.{List}
use native.Mathlib.Omega.{arith}
use lib.ListN.{length, get_or}
use borrow.Author.Tests.{lt-ltb, le-ltb, eq-eqb, ne_eqb}
use Rattle.format.specs.Conditions.{when◌then◌else◌}
use Rattle.format.specs.Outcome.{fault, done, ◌>>=◌, ◌>>◌, guard}
use Rattle.format.specs.Refusals.{ends_too_early, wrong_integer}
use Rattle.format.specs.Marks.{']'}
use Rattle.format.specs.Tokens.{none}
use Rattle.format.specs.Bytes.{byte}
use Rattle.format.specs.Sequences.{Reader, ◌⨾◌, repeat}
use Rattle.format.specs.Dimensions.{marked, listed}

-- ---- so many

pub repeat-none : (n : ℕ) (item : Reader) (at row : ℕ) → n ≤ 0 → repeat n item at row ≡ done (none, at)
unfolding repeat
repeat-none zero item at row h = refl
repeat-none (suc n) item at row h = absurd (omega arith)

pub repeat_more : (n : ℕ) (item : Reader) (at row : ℕ) → 0 < n → repeat n item at row ≡ (item ⨾ repeat (n - 1) item) at row
unfolding repeat
repeat_more zero item at row h = absurd (omega arith)
repeat_more (suc n) item at row h = let q : suc n - 1 ≡ n = omega arith in rw q

module _ (m : List ℕ) (lent : ℕ) where
  -- ---- vectors

  module _ (place at row : ℕ) where
    pub listed_none : (left : ℕ) → left ≡ 0 → listed m lent left place at row ≡ fault wrong_integer place
    unfolding listed
    listed_none left e = rw e

    pub listed_early : (left : ℕ) → 0 < left → length m ≤ at → listed m lent left place at row ≡ fault ends_too_early (length m)
    unfolding listed byte guard ◌>>◌ ◌>>=◌
    listed_early zero p h = absurd (omega arith)
    listed_early (suc left) p h = rw (le-ltb _ _ h)

    pub listed_closed : (left : ℕ) → 0 < left → at < length m → get_or m at 0 ≡ ']' → listed m lent left place at row ≡ done (none, at + 1)
    unfolding listed byte guard ◌>>◌ ◌>>=◌ when◌then◌else◌
    listed_closed zero p h e = absurd (omega arith)
    listed_closed (suc left) p h e = rw (lt-ltb _ _ h, eq-eqb _ _ e)

    pub listed_more : (left : ℕ) → 0 < left → at < length m → (get_or m at 0 ≡ ']' → ⊥)
        → listed m lent left place at row ≡ (marked m lent ⨾ listed m lent (left - 1) place) at row
    unfolding listed byte guard ◌>>◌ ◌>>=◌ when◌then◌else◌
    listed_more zero p h e = absurd (omega arith)
    listed_more (suc left) p h e = let q : suc left - 1 ≡ left = omega arith in rw (lt-ltb _ _ h, ne_eqb _ _ e, q)
