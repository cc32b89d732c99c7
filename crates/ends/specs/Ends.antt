-- What is known of a scalar, a text or a key whose end the leaves give. They give none where they leave it to the reader.
use Rattle.std.specs.Prelude.{ℕ, ◌+◌, ◌≤◌, ◌<◌, ◌≡◌, true, List, length, get_or}
use Rattle.format.specs.Outcome.{done}
use Rattle.format.specs.Limits.{limit}
use Rattle.format.specs.Marks.{is_scalar, width, 'C', 'S', 'U'}
use Rattle.format.specs.Content.{payload_end}
use Rattle.format.specs.Integers.{number, integer}

-- where it is a number of bytes that a message can have: the bytes of a mark whose payload can't be wrong, and of that payload
abbrev pub Sized : ℕ → ℕ → Type 0
Sized mark n = n ≤ limit → (is_scalar mark ≡ true) × (mark ≡ 'C' → ⊥) × (n ≡ 1 + width mark)

-- where it is nine at most, and no scalar has more: the bytes of a scalar's mark and payload
abbrev pub Spans : ℕ → ℕ → Type 0
Spans mark n = n ≤ 9 → (is_scalar mark ≡ true) × (n ≡ 1 + width mark)

-- a list that has such a number at each byte
pub record Sizes (sizes : List ℕ) : Type 0 where
  pub every : length sizes ≡ 256
  pub spans : (mark : ℕ) → mark < 256 → Spans mark (get_or sizes mark 0)

-- a scalar stands at `at` and ends before `end`
pub record ScalarEnds (m : List ℕ) (at end : ℕ) : Type 0 where
  pub marked : is_scalar (get_or m at 0) ≡ true
  pub right : payload_end m (get_or m at 0) (at + 1) (width (get_or m at 0)) ≡ done end
  pub sized : end ≡ at + 1 + width (get_or m at 0)
  pub inside : end ≤ length m

-- `S`, `U`, a length and so much text stand at `at`, and end before `end`
pub record TextEnds (m : List ℕ) (at end : ℕ) : Type 0 where
  pub marked : get_or m at 0 ≡ 'S'
  pub long : integer m (at + 1) ≡ done (get_or m (at + 2) 0, at + 3)
  pub right : payload_end m 'S' (at + 3) (get_or m (at + 2) 0) ≡ done end
  pub sized : end ≡ at + 3 + get_or m (at + 2) 0
  pub inside : end ≤ length m

-- a text or a scalar stands at `at` and ends before `end`
pub data ValueEnds (m : List ℕ) (at end : ℕ) : Type 0 where
  text_there : TextEnds m at end → ValueEnds m at end
  scalar_there : ScalarEnds m at end → ValueEnds m at end

-- `U`, a length and so much text stand at `at`, and end before `end`
pub record KeyEnds (m : List ℕ) (at end : ℕ) : Type 0 where
  pub marked : get_or m at 0 ≡ 'U'
  pub long : number m limit 'U' at (at + 1) ≡ done (get_or m (at + 1) 0, at + 2)
  pub right : payload_end m 'S' (at + 2) (get_or m (at + 1) 0) ≡ done end
  pub sized : end ≡ at + 2 + get_or m (at + 1) 0
  pub inside : end ≤ length m
