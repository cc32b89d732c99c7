-- What a walk over a schema's bytes answers, by what reads them.
use Rattle.std.specs.Prelude.{ℕ, ◌+◌, ◌≤◌, min, ◌≡◌, List}
use Rattle.format.specs.Outcome.{done}
use Rattle.format.specs.Limits.{record_limit}
use Rattle.format.specs.Tokens.{Forest}
use Rattle.format.specs.Records.{total_width}
use Rattle.format.specs.Sequences.{Reader}
use Rattle.columns.specs.Least.{nowhere, farthest, in_columns, Fits}
use Rattle.columns.specs.declared.Walk.{Walk}

-- where a walk may begin
pub record Sound (stride place best : ℕ) : Type 0 where
  pub narrow : stride ≤ record_limit
  pub near : place ≤ farthest
  pub low : best ≤ nowhere

-- and where it ends
pub record Ends (best : ℕ) (w : Walk) : Type 0 where
  pub near : w.place ≤ farthest
  pub low : w.best ≤ best

-- a walk over members: the place after them, the place after their first values, and the least place of a wrong value
pub record Over (m : List ℕ) (stride n place best : ℕ) (f : Forest) (next : ℕ) (w : Walk) : Type 0 where
  pub ended : w.next ≡ next
  pub onward : w.place ≡ place + total_width f
  pub lowest : w.best ≡ min best (in_columns m stride n f place)

-- a walk over what a reader reads, if it reads it
abbrev pub Walks : List ℕ → (ℕ → Reader) → ℕ → ℕ → ℕ → ℕ → ℕ → Walk → Type 0
Walks m reader at stride n place best w =
    (lent row next : ℕ) (f : Forest) → row ≤ lent → reader lent at row ≡ done (f, next) → Fits m stride n (place + total_width f) → Over m stride n place best f next w
