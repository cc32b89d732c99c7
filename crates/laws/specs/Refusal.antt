-- The refusals of reading: of 01's numbers these ten, each with its place, at a byte of the message where nothing else is said.
use Rattle.std.specs.Prelude.{ℕ, ◌≤◌, ◌<◌, ◌≡◌, List, length, get_or}
use Rattle.format.specs.Limits.{limit}
use Rattle.format.specs.Marks.{'N'}
use Rattle.format.specs.Refusals.{message_too_long, ends_too_early, not_allowed, wrong_content, over_limit, wrong_integer, too_deep, no_row_left, bytes_after, not_built}

pub data Refusal (m : List ℕ) : ℕ → ℕ → Type 0 where
  -- 1, of a message over the limit: at 0
  too_long : limit < length m → Refusal m message_too_long 0
  -- 2: at the message's length
  early : Refusal m ends_too_early (length m)
  -- 3
  unallowed : {place : ℕ} → place < length m → Refusal m not_allowed place
  -- 4: where the content begins, which is the message's length if it is empty and the last
  content : {place : ℕ} → place ≤ length m → Refusal m wrong_content place
  -- 5
  over : {place : ℕ} → place < length m → Refusal m over_limit place
  -- 6
  integer : {place : ℕ} → place < length m → Refusal m wrong_integer place
  -- 7
  deep : {place : ℕ} → place < length m → Refusal m too_deep place
  -- 8
  rowless : {place : ℕ} → place < length m → Refusal m no_row_left place
  -- 9: one that isn't `N`
  after : {place : ℕ} → place < length m → (get_or m place 0 ≡ 'N' → ⊥) → Refusal m bytes_after place
  -- 13
  unbuilt : {place : ℕ} → place < length m → Refusal m not_built place
