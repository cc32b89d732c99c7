-- The text in a slot: an equation for each case, and that it lies inside the message. Assumes nothing.
use Prim.Native.Nat.{ℕ, ◌+◌, ◌-◌, ◌≤◌}
use mathlib.Core.Path.{◌≡◌, refl}
use mathlib.Core.Bool.{Bool, true, false, ◌&&◌, false≢true}
use mathlib.Core.List.{List}
use lib.ListN.{length}
use lib.Dec.{leb}
use borrow.Author.Tests.{eq-eqb, ne_eqb, leb-true}
use Rattle.format.specs.Outcome.{fault, done, guard, ◌>>=◌, ◌>>◌}
use Rattle.format.specs.Refusals.{rows_dont_fit}
use Rattle.format.specs.Marks.{'S'}
use Rattle.format.specs.Bytes.{within}
use Rattle.format.specs.Addresses.{Region, inside, table_slot}
use Rattle.format.specs.TextAnswers.{text_in_table}
use Rattle.format.specs.Answers.{first_and_width}
use Rattle.laws.proofs.Holds.{Holds, holds, bind_law, then_law, if_law, guard_law, any_law, of_done}

module _ (m ws : List ℕ) (row leaf_row : ℕ) (is : List ℕ) where
  pub text_refused : (n : ℕ) → table_slot ws (length m) row leaf_row is ≡ fault n 0 → fault n 0 ≡ first_and_width (text_in_table m ws row leaf_row is)
  unfolding text_in_table first_and_width ◌>>=◌
  text_refused n e = rw e refl

  module _ (s : Region) (e : table_slot ws (length m) row leaf_row is ≡ done s) where
    pub text_other : (s.mark ≡ 'S' → ⊥) → fault rows_dont_fit 0 ≡ first_and_width (text_in_table m ws row leaf_row is)
    unfolding text_in_table first_and_width guard ◌>>=◌ ◌>>◌
    text_other h = rw (e, ne_eqb s.mark 'S' h) refl

    pub text_there_lem : s.mark ≡ 'S' → done (s.first, s.wide) ≡ first_and_width (text_in_table m ws row leaf_row is)
    unfolding text_in_table first_and_width guard ◌>>=◌ ◌>>◌
    text_there_lem h = rw (e, eq-eqb s.mark 'S' h) refl

-- ---- a slot lies inside the message

within-true : (a : Bool) (size first wide : ℕ) → (a && within size first wide) ≡ true → first + wide ≤ size
unfolding within
within-true true size first wide h = leb-true (first + wide) size h
within-true false size first wide h = absurd (false≢true h)

abbrev Lies : ℕ → Region → Type 0
Lies size s = s.first + s.wide ≤ size

inside_lies : (ws : List ℕ) (size mark start less wide : ℕ) → Holds (Unit {0}) (Lies size) (inside ws size mark start less wide)
unfolding inside
inside_lies ws size mark start less wide = then_law (guard_law _ rows_dont_fit 0 refl) λ h. holds (within-true (leb less start) size (start - less) wide h)

pub slot_lies : (ws : List ℕ) (size row leaf_row : ℕ) (is : List ℕ) (s : Region) → table_slot ws size row leaf_row is ≡ done s → s.first + s.wide ≤ size
unfolding table_slot
slot_lies ws size row leaf_row is s e =
    of_done s
    (bind_law (any_law _) λ stop _. bind_law (any_law _) λ from _. bind_law (any_law _) λ row_of_field _. bind_law (any_law _) λ ds _. then_law (any_law _) λ _.
    if_law _ (λ _. inside_lies ws size _ _ 0 _) (λ _. inside_lies ws size _ _ _ _))
    e
