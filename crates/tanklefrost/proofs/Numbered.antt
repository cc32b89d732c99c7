-- Reading and rewriting by an edition's number: as by the edition that it names, or 12. Assumes nothing.
use Prim.Native.Nat.{ℕ}
use mathlib.Core.Path.{◌≡◌}
use mathlib.Core.List.{List}
use Rattle.format.specs.Outcome.{fault, done, ◌>>=◌}
use Rattle.format.specs.Refusals.{rows_dont_fit}
use Rattle.format.specs.Grammars.{Grammar}
use Rattle.format.specs.Read.{read_into}
use Rattle.format.specs.HouseForm.{rewrite}
use Rattle.structs.specs.Editions.{grammar_numbered, read_numbered, rewrite_numbered}

-- a number that names an edition
module _ (n : ℕ) (g : Grammar) (e : done g ≡ grammar_numbered n) where
  pub read_by : (m ws : List ℕ) → read_numbered n m ws ≡ read_into m ws g
  unfolding read_numbered ◌>>=◌
  read_by m ws = rw (← e)

  pub rewrite_by : (m : List ℕ) (rows_lent room : ℕ) → rewrite_numbered n m rows_lent room ≡ rewrite m rows_lent g room
  unfolding rewrite_numbered ◌>>=◌
  rewrite_by m rows_lent room = rw (← e)

-- a number that names none
module _ (n : ℕ) (e : fault rows_dont_fit 0 ≡ grammar_numbered n) where
  pub read_by_none : (m ws : List ℕ) → read_numbered n m ws ≡ fault rows_dont_fit 0
  unfolding read_numbered ◌>>=◌
  read_by_none m ws = rw (← e)

  pub rewrite_by_none : (m : List ℕ) (rows_lent room : ℕ) → rewrite_numbered n m rows_lent room ≡ fault rows_dont_fit 0
  unfolding rewrite_numbered ◌>>=◌
  rewrite_by_none m rows_lent room = rw (← e)
