-- What reads tokens, and the ways to go on from one to the next. A reader starts at a place of the message and at a row.
use Rattle.std.specs.Prelude.{ℕ, zero, suc, ◌+◌, List, length, ltb, eqb}
use Rattle.format.specs.Conditions.{when◌then◌else◌}
use Rattle.format.specs.Outcome.{Outcome, fault, done, Parsed, ◌>>=◌, guard}
use Rattle.format.specs.Refusals.{ends_too_early, no_row_left}
use Rattle.format.specs.Tokens.{Forest, none, size, ◌⊕◌}
use Rattle.format.specs.Bytes.{byte, skip}

abbrev pub Reader : Type 0
Reader = ℕ → ℕ → Parsed Forest

-- a row must be left for the token that begins here
unfoldable pub row_left : ℕ → ℕ → ℕ → Outcome (Unit {0})
row_left rows_lent at row = guard (ltb row rows_lent) no_row_left at

-- one, and then another, in the rows after it
infixr 6 ◌⨾◌
unfoldable pub ◌⨾◌ : Reader → Reader → Reader
◌⨾◌ one other at row = do
  (f, next) ← one at row
  (g, end) ← other next (row + size f)
  done (f ⊕ g, end)

-- n of them
unfoldable pub repeat : ℕ → Reader → Reader
repeat zero item at row = done (none, at)
repeat (suc n) item at row = (item ⨾ repeat n item) at row

module _ (m : List ℕ) where
  -- up to a closing mark, and its place. `gap` leads to where an item or that mark may begin. Each item has a byte, so `fuel`
  -- of the message's length is gone only at its end
  unfoldable pub until : ℕ → (ℕ → ℕ) → ℕ → Reader → Reader
  until zero gap closing item at row = fault ends_too_early (length m)
  until (suc fuel) gap closing item at row = do
    b ← byte m (gap at)
    when eqb b closing then done (none, gap at) else (item ⨾ until fuel gap closing item) (gap at) row

  -- one that may have `N` before it
  unfoldable pub spaced : Reader → Reader
  spaced item at row = item (skip m at) row
