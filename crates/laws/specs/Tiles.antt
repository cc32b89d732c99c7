-- Slots side by side.
use Rattle.std.specs.Prelude.{ℕ, ◌+◌, ◌≡◌, List, [], ◌∷◌}
use Rattle.format.specs.Storage.{Slot}

-- slots from one offset to another, each where the one before ends
pub data Tiles {A : Type 0} (end : ℕ) : ℕ → List (Slot A) → Type 0 where
  no_slot : {from : ℕ} → from ≡ end → Tiles end from []
  next_slot : {from : ℕ} {s : Slot A} {ss : List (Slot A)} → s.offset ≡ from → Tiles end (from + s.wide) ss → Tiles end from (s ∷ ss)
