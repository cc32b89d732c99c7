-- Request No. 1, the two editions beside each other: what the old one accepts, the new one accepts with the same tokens, and it leaves the
-- same words; and every refusal of the old one is the new one's, but 3 at an `E`.
use Rattle.std.specs.Prelude.{ℕ, ◌≡◌, List, get_or}
use Rattle.format.specs.Outcome.{fault, done}
use Rattle.format.specs.Refusals.{not_allowed}
use Rattle.format.specs.Marks.{'E'}
use Rattle.format.specs.Tokens.{Forest}
use Rattle.format.specs.Grammars.{old, new}
use Rattle.format.specs.Read.{read, read_into}
use Rattle.demands.specs.Reads.{after_reading}

pub record Editions (m : List ℕ) (rows_lent : ℕ) : Type 0 where
  -- what the old one accepts
  pub accepted : (f : Forest) → read m rows_lent old ≡ done f → read m rows_lent new ≡ done f
  -- with any words lent
  pub words : (lent : List ℕ) (f : Forest) → read_into m lent old ≡ done f → after_reading m lent new ≡ after_reading m lent old
  -- what it refuses, unless with 3 at an `E`
  pub refused : (n place : ℕ) → read m rows_lent old ≡ fault n place → ((n ≡ not_allowed) × (get_or m place 0 ≡ 'E') → ⊥)
      → read m rows_lent new ≡ fault n place
