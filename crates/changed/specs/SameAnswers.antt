-- What an address reads, compared in two messages with the same rows: the slot or the refusal, the slot's bytes, and the value or
-- text answer there.
use Rattle.std.specs.Prelude.{ℕ, ◌≡◌, List, length}
use Rattle.format.specs.Outcome.{Outcome, done}
use Rattle.format.specs.Addresses.{Region, packed_slot, table_slot}
use Rattle.format.specs.Values.{value_in_packed, value_in_table}
use Rattle.format.specs.TextAnswers.{text_in_table, part}
use Rattle.laws.specs.Places.{Apart}

-- what was found, if anything, shares no byte with the w bytes from s on
abbrev pub Untouched : ℕ → ℕ → Outcome Region → Type 0
Untouched s w o = (r : Region) → o ≡ done r → Apart r.first r.wide s w

-- at a packed row and indexes
pub record SameInPacked (m m' ws : List ℕ) (row : ℕ) (is : List ℕ) : Type 0 where
  pub slot_same : packed_slot ws (length m') row is ≡ packed_slot ws (length m) row is
  pub bytes_same : part m' (packed_slot ws (length m') row is) ≡ part m (packed_slot ws (length m) row is)
  pub value_same : value_in_packed m' ws row is ≡ value_in_packed m ws row is

-- at a table row, a leaf row and indexes
pub record SameInTable (m m' ws : List ℕ) (row leaf_row : ℕ) (is : List ℕ) : Type 0 where
  pub slot_same : table_slot ws (length m') row leaf_row is ≡ table_slot ws (length m) row leaf_row is
  pub bytes_same : part m' (table_slot ws (length m') row leaf_row is) ≡ part m (table_slot ws (length m) row leaf_row is)
  pub value_same : value_in_table m' ws row leaf_row is ≡ value_in_table m ws row leaf_row is
  pub text_same : text_in_table m' ws row leaf_row is ≡ text_in_table m ws row leaf_row is
  pub text_bytes_same : part m' (text_in_table m' ws row leaf_row is) ≡ part m (text_in_table m ws row leaf_row is)
