-- Same meaning is an equivalence of messages with their rows. Assumes nothing.
use Prim.Native.Nat.{ℕ}
use mathlib.Core.Path.{refl, sym, ◌∙◌}
use mathlib.Core.List.{List}
use Rattle.format.specs.Rows.{Row}
use Rattle.format.specs.SameMeaning.{SameMeaning}

module _ (m : List ℕ) (rs : List Row) where
  pub meaning_refl : SameMeaning m rs m rs
  meaning_refl = refl

  module _ (n : List ℕ) (ss : List Row) (e : SameMeaning m rs n ss) where
    pub meaning_sym : SameMeaning n ss m rs
    meaning_sym = sym e

    pub meaning_trans : (o : List ℕ) (ts : List Row) → SameMeaning n ss o ts → SameMeaning m rs o ts
    meaning_trans o ts k = e ∙ k
