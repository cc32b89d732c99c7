-- Two messages that differ in some bytes alone.
use Rattle.std.specs.Prelude.{ℕ, ◌≡◌, List, length, get_or}
use Rattle.format.specs.Tokens.{Forest}
use Rattle.laws.specs.Places.{InSlots, Apart}

-- as long as the first message, with the same bytes but for the w bytes from s on
pub record Alike (m m' : List ℕ) (s w : ℕ) : Type 0 where
  pub long : length m' ≡ length m
  pub outside : (i : ℕ) → Apart i 1 s w → get_or m' i 0 ≡ get_or m i 0

-- as long as the first message, with the same bytes but for those in payloads, of a forest, that are cut into slots
pub record AlikeButSlots (m m' : List ℕ) (f : Forest) : Type 0 where
  pub long : length m' ≡ length m
  pub outside : (i : ℕ) → (InSlots i f → ⊥) → get_or m' i 0 ≡ get_or m i 0
