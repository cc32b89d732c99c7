-- What is left of output and rows once so many bytes were put.
use Rattle.std.specs.Prelude.{ℕ, ◌≡◌, Bool, true, false, ◌&&◌, List, length, leb}
use Rattle.format.specs.Outcome.{Outcome, fault, done}
use Rattle.format.specs.Limits.{limit}
use Rattle.format.specs.Refusals.{output_too_long}
use Rattle.format.specs.Rows.{zeros}
use Rattle.rows.specs.Clearing.{cleared_from}

-- so many bytes fit the room, and the limit
unfoldable pub fits_in : ℕ → ℕ → Bool
fits_in room n = leb n room && leb n limit

-- what was put stays where it fits; else all is zero
pub data Settled (end : ℕ) (rows output : List ℕ) : Outcome ℕ → List ℕ → List ℕ → Type 0 where
  fitting : {output' : List ℕ} → fits_in (length output) end ≡ true → output' ≡ cleared_from output end → Settled end rows output (done end) rows output'
  too_long : {rows' output' : List ℕ} → fits_in (length output) end ≡ false → rows' ≡ zeros (length rows) → output' ≡ zeros (length output)
      → Settled end rows output (fault output_too_long 0) rows' output'
