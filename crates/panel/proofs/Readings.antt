-- What reading with rows enough answers fits the parts of the panel's answers. Assumes nothing.
use Prim.Native.Nat.{ℕ, ◌<◌, ◌^◌}
use mathlib.Core.Path.{◌≡◌, refl}
use mathlib.Core.List.{List}
use native.Mathlib.Omega.{arith}
use lib.ListN.{length}
use Rattle.format.specs.Grammars.{new}
use Rattle.format.specs.Outcome.{Outcome, fault, done, number_of, place_of, or_zero}
use Rattle.format.specs.Tokens.{Forest, size}
use Rattle.format.specs.Read.{read_whole, rows_used}
use Rattle.format.specs.Panel.{number_and_place, rows_needed}
use Rattle.laws.proofs.Faults.{fault_within}
use Rattle.laws.proofs.Reading.{accepted_short, rows_few}
use Rattle.panel.specs.Layout.{number_and_place_parts, rows_parts}

module _ (m : List ℕ) where
  module _ (n p : ℕ) (refused : fault n p ≡ rows_needed m) where
    pub read_refused : read_whole m new ≡ fault n p
    unfolding rows_used
    read_refused = go (read_whole m new) refused
      where
        go : (o : Outcome Forest) → fault n p ≡ rows_used o → o ≡ fault n p
        go (fault n' p') e = let a : n' ≡ n = cc in let b : p' ≡ p = cc in rw (a, b)
        go (done f) e = let z : ◌≡◌ {A = ℕ} 0 1 = cc in absurd (omega arith)

    pub refused_fits : (n < 2 ^ 8) × (p < 2 ^ 24)
    unfolding read_whole
    refused_fits = let h = fault_within m (length m) new n p read_refused in (omega arith, omega arith)

    pub refused_place : record { number = n; place = p; amount = 0 } ≡ number_and_place_parts (number_and_place m)
    unfolding number_and_place_parts number_and_place number_of place_of
    refused_place = rw read_refused

    pub refused_rows : record { number = n; place = p; amount = 0 } ≡ rows_parts (rows_needed m)
    unfolding rows_parts number_of place_of or_zero
    refused_rows = rw (← refused)

  module _ (rows : ℕ) (answered : done rows ≡ rows_needed m) where
    -- the tokens that were read
    pub record Accepted : Type 0 where
      pub forest : Forest
      pub read : read_whole m new ≡ done forest
      pub took : rows ≡ size forest

    pub accepted : Accepted
    unfolding rows_used
    accepted = go (read_whole m new) refl answered
      where
        go : (o : Outcome Forest) → read_whole m new ≡ o → done rows ≡ rows_used o → Accepted
        go (fault n p) r e = let z : ◌≡◌ {A = ℕ} 0 1 = cc in absurd (omega arith)
        go (done f) r e = record { forest = f; read = r; took = cc }

    pub rows_fit : rows < 2 ^ 32
    unfolding read_whole
    rows_fit =
        let a = accepted in
        let h = rows_few m (length m) new a.forest a.read in
        let l = accepted_short m (length m) new a.forest a.read in
        omega (arith, a.took)

    pub done_place : record { number = 0; place = 0; amount = 0 } ≡ number_and_place_parts (number_and_place m)
    unfolding number_and_place_parts number_and_place number_of place_of
    done_place = rw accepted.read

    pub done_rows : record { number = 0; place = 0; amount = rows } ≡ rows_parts (rows_needed m)
    unfolding rows_parts number_of place_of or_zero
    done_rows = rw (← answered)
