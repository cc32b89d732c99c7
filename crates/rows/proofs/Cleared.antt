-- A list that is cleared from the front, one store a turn. Assumes nothing.
use mathlib.Core.Path.{◌≡◌, refl, sym, ap, ◌∙◌}
use Prim.Native.Nat.{ℕ, ◌+◌, ◌≤◌, ◌<◌, zero-le}
use native.Mathlib.Omega.{arith}
use native.Mathlib.Nat.{zero-add}
use mathlib.Core.List.{List, append-nil}
use lib.ListN.{length, set, replicate, length-set, length-replicate}
use lib.Seq.{paste, drop-length, take_all}
use Rattle.std.proofs.lemmas.List.Edits.{fill_from_more}

-- after i turns the first i are z, and the rest is as it was
pub record Cleared {A : Type 0} (z : A) (before : List A) (i : ℕ) (after : List A) : Type 0 where
  pub turns : i ≤ length before
  pub long : length after ≡ length before
  pub is : after ≡ paste before 0 (replicate i z) i

module _ {A : Type 0} (z : A) (before : List A) where
  pub none : Cleared z before 0 before
  none = record { turns = zero-le; long = omega arith; is = refl }

  module _ (i : ℕ) (after : List A) (c : Cleared z before i after) where
    pub one_more : i < length before → Cleared z before (i + 1) (set after i z)
    one_more h =
        record {
          turns = omega arith;
          long = length-set after i z ∙ c.long;
          is = ap (λ s. set s i z) c.is ∙ ap (λ k. set (paste before 0 (replicate i z) i) k z) (sym (zero-add i)) ∙ fill_from_more before 0 i z (rw zero-add h);
        }

    pub all : length after ≤ i → after ≡ replicate (length before) z
    all h = let e : i ≡ length before = omega arith in c.is ∙ simp (e, zero-add, drop-length, append-nil, take_all (length before) (replicate (length before) z) (omega (arith, length-replicate (length before) z)))
