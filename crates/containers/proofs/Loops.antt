-- The loops over members: where they are, and one turn of each. Assumes nothing.
use Prim.Native.Nat.{ℕ, zero, suc, ◌+◌, ◌-◌, ◌≤◌, ◌<◌}
use mathlib.Core.Path.{◌≡◌, refl, ap, ◌∙◌}
use mathlib.Core.List.{List}
use native.Mathlib.Omega.{arith}
use lib.ListN.{length, get_or}
use borrow.Author.Tests.{lt-ltb, le-ltb, eq-eqb, ne_eqb}
use Rattle.format.specs.Conditions.{when◌then◌else◌}
use Rattle.format.specs.Outcome.{fault, done, ◌>>=◌, ◌>>◌, guard}
use Rattle.format.specs.Limits.{limit}
use Rattle.format.specs.Refusals.{ends_too_early}
use Rattle.format.specs.Tokens.{none}
use Rattle.format.specs.Rows.{Ancestry}
use Rattle.format.specs.Bytes.{byte}
use Rattle.format.specs.Sequences.{Reader, ◌⨾◌, repeat, until}
use Rattle.tokens.specs.Answers.{Laid}
use Rattle.tokens.proofs.Sofar.{Sofar, sofar_start, sofar_as, sofar_step, sofar_fault, sofar_end, seq_fault}

-- where a loop is
pub record Going (m : List ℕ) (lent start at row count : ℕ) : Type 0 where
  pub short : length m ≤ limit
  pub on : start ≤ at
  pub inside : at ≤ length m
  pub row_lent : row ≤ lent
  pub row_byte : row ≤ at
  pub few : count ≤ at

-- ---- so many

module _ (n : ℕ) (item : Reader) (start first : ℕ) (ancestry : Ancestry) (before : List ℕ) where
  -- of n members, `count` are read
  pub record Some (at row count : ℕ) (now : List ℕ) : Type 0 where
    pub most : count ≤ n
    pub sofar : Sofar (repeat n item start first) first ancestry before (repeat (n - count) item at row) row count now

  pub some_start : Some start first 0 before
  some_start = record { most = omega arith; sofar = sofar_as (sofar_start (repeat n item start first) first ancestry before) _ (ap (λ k. repeat k item start first) (omega arith)) }

  turn : (count at row : ℕ) → count < n → repeat (n - count) item at row ≡ (item ⨾ repeat (n - (count + 1)) item) at row
  unfolding repeat
  turn count at row h = let e : n - count ≡ suc (n - (count + 1)) = omega arith in rw e

  module _ {at row count : ℕ} {now : List ℕ} (s : Some at row count now) where
    pub some_step : (next row' : ℕ) (after : List ℕ) → count < n → Laid (item at row) row 1 ancestry now after next row' → Some next row' (count + 1) after
    some_step next row' after h l =
        record { most = omega arith; sofar = sofar_step s.sofar item (repeat (n - (count + 1)) item) at next row' 1 after (turn count at row h) l }

    pub some_fault : (x y : ℕ) → count < n → item at row ≡ fault x y → repeat n item start first ≡ fault x y
    some_fault x y h e = sofar_fault s.sofar x y (turn count at row h ∙ seq_fault item _ at row x y e)

    pub some_end : n ≤ count → Laid (repeat n item start first) first n ancestry before now at row
    unfolding repeat
    some_end h =
        let k = s.most in
        let e : n - count ≡ 0 = omega arith in
        let f : count ≡ n = omega arith in rw f at (sofar_end s.sofar at (rw e))

-- ---- up to a closing mark

module _ (m : List ℕ) (gap : ℕ → ℕ) (closing : ℕ) (item : Reader) (start first : ℕ) (ancestry : Ancestry) (before : List ℕ) where
  -- some are read, and fuel is left for those that may follow
  pub record Until (fuel₀ at row count : ℕ) (now : List ℕ) : Type 0 where
    pub fuel : ℕ
    pub enough : length m ≤ at + fuel
    pub sofar : Sofar (until m fuel₀ gap closing item start first) first ancestry before (until m fuel gap closing item at row) row count now

  pub until_start : (fuel₀ : ℕ) → length m ≤ start + fuel₀ → Until fuel₀ start first 0 before
  until_start fuel₀ h = record { fuel = fuel₀; enough = h; sofar = sofar_start _ first ancestry before }

  early : (fuel at row : ℕ) → length m ≤ gap at → until m fuel gap closing item at row ≡ fault ends_too_early (length m)
  unfolding until byte guard ◌>>◌ ◌>>=◌
  early zero at row h = refl
  early (suc fuel) at row h = rw (le-ltb _ _ h)

  stop : (fuel at row : ℕ) → at ≤ gap at → length m ≤ at + fuel → gap at < length m → get_or m (gap at) 0 ≡ closing
      → until m fuel gap closing item at row ≡ done (none, gap at)
  unfolding until byte guard ◌>>◌ ◌>>=◌ when◌then◌else◌
  stop zero at row u l h e = absurd (omega arith)
  stop (suc fuel) at row u l h e = rw (lt-ltb _ _ h, eq-eqb _ _ e)

  go : (fuel at row : ℕ) → at ≤ gap at → length m ≤ at + fuel → gap at < length m → (get_or m (gap at) 0 ≡ closing → ⊥)
      → (left : ℕ) × (fuel ≡ suc left) × (until m fuel gap closing item at row ≡ (item ⨾ until m left gap closing item) (gap at) row)
  unfolding until byte guard ◌>>◌ ◌>>=◌ when◌then◌else◌
  go zero at row u l h e = absurd (omega arith)
  go (suc fuel) at row u l h e = (fuel, refl, rw (lt-ltb _ _ h, ne_eqb _ _ e))

  module _ {fuel₀ at row count : ℕ} {now : List ℕ} (s : Until fuel₀ at row count now) (up : at ≤ gap at) where
    pub until_early : length m ≤ gap at → until m fuel₀ gap closing item start first ≡ fault ends_too_early (length m)
    until_early h = sofar_fault s.sofar _ _ (early s.fuel at row h)

    module _ (there : gap at < length m) where
      pub until_stop : get_or m (gap at) 0 ≡ closing → Laid (until m fuel₀ gap closing item start first) first count ancestry before now (gap at) row
      until_stop e = sofar_end s.sofar (gap at) (stop s.fuel at row up s.enough there e)

      module _ (more : get_or m (gap at) 0 ≡ closing → ⊥) where
        pub until-fault : (x y : ℕ) → item (gap at) row ≡ fault x y → until m fuel₀ gap closing item start first ≡ fault x y
        until-fault x y e =
            let g = go s.fuel at row up s.enough there more in
            sofar_fault s.sofar x y (g.2 ∙ seq_fault item _ (gap at) row x y e)

        pub until_step : (next row' : ℕ) (after : List ℕ) → gap at < next → Laid (item (gap at) row) row 1 ancestry now after next row' → Until fuel₀ next row' (count + 1) after
        until_step next row' after h l =
            let g = go s.fuel at row up s.enough there more in
            record {
              fuel = g.0;
              enough = omega (arith, s.enough, g.1);
              sofar = sofar_step s.sofar item (until m g.0 gap closing item) (gap at) next row' 1 after g.2 l;
            }
