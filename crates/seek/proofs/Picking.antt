-- The tables of one forest and then another, and picking one of them. Assumes nothing.
use Prim.Native.Nat.{ℕ, zero, suc, ◌+◌}
use mathlib.Core.Path.{◌≡◌, ap, ◌∙◌}
use mathlib.Core.List.{List, [], ◌∷◌, ◌++◌, append_assoc}
use native.Mathlib.Omega.{arith}
use native.Mathlib.Nat.{add-zero}
use lib.ListN.{length, length-append}
use Rattle.format.specs.Outcome.{done}
use Rattle.format.specs.Tokens.{Forest, none, node, size, ◌⊕◌}
use Rattle.format.specs.Panel.{tables, pick}

pub tables_append : (n : ℕ) (f g : Forest) → tables n (f ⊕ g) ≡ tables n f ++ tables (n + size f) g
unfolding tables size ◌⊕◌
tables_append n none g = rw add-zero
tables_append n (node t below after) g =
    let e : suc n + size below + size after ≡ n + suc (size below + size after) = omega arith in
    simp (tables_append (suc n + size below) after g, e, append_assoc)

pub tables-length : (n : ℕ) (f g : Forest) → length (tables n (f ⊕ g)) ≡ length (tables n f) + length (tables (n + size f) g)
tables-length n f g = ap length (tables_append n f g) ∙ length-append (tables n f) (tables (n + size f) g)

-- one of the first list
pub pick_first : {A : Type 0} (l k : List A) (i : ℕ) (a : A) → pick l i ≡ done a → pick (l ++ k) i ≡ done a
unfolding pick
pick_first [] k i a e = let z : ◌≡◌ {A = ℕ} 0 1 = cc in absurd (omega arith)
pick_first (b ∷ l) k zero a e = e
pick_first (b ∷ l) k (suc i) a e = pick_first l k i a e

-- one of the second list
pub pick_past : {A : Type 0} (l k : List A) (i : ℕ) → pick (l ++ k) (length l + i) ≡ pick k i
unfolding pick
pick_past {A} [] k i = let e : length {A = A} [] + i ≡ i = omega arith in rw e
pick_past (b ∷ l) k i = let e : length (b ∷ l) + i ≡ suc (length l + i) = omega arith in rw e (pick_past l k i)
