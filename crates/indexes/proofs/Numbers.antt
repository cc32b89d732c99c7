-- Indexes in range, and their number, from the first index on or from the last. Assumes nothing.
use Prim.Native.Nat.{ℕ, zero, suc, ◌+◌, ◌-◌, ◌*◌, ◌≤◌, ◌<◌}
use mathlib.Core.Path.{◌≡◌, refl, sym, ap, ◌∙◌}
use mathlib.Core.Bool.{Bool, true, false, ◌&&◌, false≢true}
use mathlib.Core.List.{List, [], ◌∷◌}
use native.Mathlib.Omega.{arith}
use native.Mathlib.Numerals.{add-one}
use native.Mathlib.Nat.{add-mul, mul_assoc, mul_comm}
use lib.ListN.{length, get_or, drop, drop_of_length-le}
use lib.Seq.{drop-cons}
use lib.Dec.{ltb}
use borrow.Author.Tests.{ltb-true, lt-ltb, le-ltb}
use Rattle.format.specs.Indexes.{product, in_range, last_number, first_number}
use Rattle.indexes.specs.Sums.{capped}
use Rattle.indexes.proofs.Capped.{capped_longer}

-- ---- in range

-- as many indexes as extents
pub range_length : (ds is : List ℕ) → in_range ds is ≡ true → length ds ≡ length is
unfolding in_range
range_length [] [] h = refl
range_length [] (i ∷ is) h = absurd (false≢true h)
range_length (d ∷ ds) [] h = absurd (false≢true h)
range_length (d ∷ ds) (i ∷ is) h = go (ltb i d) h (range_length ds is)
  where
    go : (b : Bool) → (b && in_range ds is) ≡ true → (in_range ds is ≡ true → length ds ≡ length is) → length (d ∷ ds) ≡ length (i ∷ is)
    go true h rest = ap suc (rest h)
    go false h rest = absurd (false≢true h)

-- each below its extent
pub range_at : (ds is : List ℕ) (k : ℕ) → in_range ds is ≡ true → k < length ds → get_or is k 0 < get_or ds k 0
unfolding in_range
range_at [] is k h q = absurd (omega arith)
range_at (d ∷ ds) [] k h q = absurd (false≢true h)
range_at (d ∷ ds) (i ∷ is) k h q = go (ltb i d) refl h k q (λ j. range_at ds is j)
  where
    go : (b : Bool) → ltb i d ≡ b → (b && in_range ds is) ≡ true → (k : ℕ) → k < length (d ∷ ds)
        → ((j : ℕ) → in_range ds is ≡ true → j < length ds → get_or is j 0 < get_or ds j 0) → get_or (i ∷ is) k 0 < get_or (d ∷ ds) k 0
    go true e h zero q rest = ltb-true i d e
    go true e h (suc j) q rest = rest j h (omega arith)
    go false e h k q rest = absurd (false≢true h)

-- other lengths are not in range
pub lengths_differ : (ds is : List ℕ) → (length ds ≡ length is → ⊥) → in_range ds is ≡ false
lengths_differ ds is h = go (in_range ds is) refl
  where
    go : (b : Bool) → in_range ds is ≡ b → in_range ds is ≡ false
    go true e = absurd (h (range_length ds is e))
    go false e = e

module _ (ds is : List ℕ) (k : ℕ) where
  -- an index that is below its extent, one that is not, and none left
  pub range_on : k < length ds → k < length is → get_or is k 0 < get_or ds k 0 → in_range (drop k ds) (drop k is) ≡ in_range (drop (k + 1) ds) (drop (k + 1) is)
  unfolding in_range
  range_on p q h = rw (add-one k, drop-cons ds k 0, drop-cons is k 0, lt-ltb _ _ h) refl

  pub range_off : k < length ds → k < length is → get_or ds k 0 ≤ get_or is k 0 → in_range (drop k ds) (drop k is) ≡ false
  unfolding in_range
  range_off p q h = rw (drop-cons ds k 0, drop-cons is k 0, le-ltb _ _ h) refl

  pub range_end : length ds ≤ k → length is ≤ k → in_range (drop k ds) (drop k is) ≡ true
  unfolding in_range
  range_end p q = rw (drop_of_length-le ds p, drop_of_length-le is q) refl

-- ---- the last index moving fastest: the number of the first k, and what the others add

-- x is the number of the first k
pub record Counted (ds is : List ℕ) (k n : ℕ) : Type 0 where
  pub number : ℕ
  pub is-capped : n ≡ capped number
  pub whole : last_number ds is ≡ number * product (drop k ds) + last_number (drop k ds) (drop k is)

pub counted_start : (ds is : List ℕ) → Counted ds is 0 0
counted_start ds is = record { number = 0; is-capped = refl; whole = omega arith }

pub counted_on : (ds is : List ℕ) (k n : ℕ) → Counted ds is k n → k < length ds → k < length is → 0 < get_or ds k 0
    → (n' : ℕ) → n' ≡ capped (capped (n * get_or ds k 0) + get_or is k 0) → Counted ds is (k + 1) n'
unfolding last_number product
counted_on ds is k n c p q h n' e =
    let d = get_or ds k 0 in
    let i = get_or is k 0 in
    let P = product (drop (suc k) ds) in
    let x = c.number in
    let s : x * (d * P) + (i * P + last_number (drop (suc k) ds) (drop (suc k) is)) ≡ (x * d + i) * P + last_number (drop (suc k) ds) (drop (suc k) is) =
    rw (add-mul (x * d) i P, mul_assoc x d P) (omega arith) in
    record {
      number = x * d + i;
      is-capped = e ∙ ap (λ m. capped (capped (m * d) + i)) c.is-capped ∙ capped_longer x d i h;
      whole = c.whole ∙ rw (add-one k, drop-cons ds k 0 p, drop-cons is k 0 q) s;
    }

pub counted_end : (ds is : List ℕ) (k n : ℕ) → Counted ds is k n → length ds ≤ k → n ≡ capped (last_number ds is)
unfolding last_number product
counted_end ds is k n c h =
    let e : last_number ds is ≡ c.number = c.whole ∙ rw (drop_of_length-le ds h) (omega arith) in
    c.is-capped ∙ ap capped (sym e)

-- ---- the first index moving fastest: the number of those from k on

pub first_end : (ds is : List ℕ) → 0 ≡ capped (first_number (drop (length ds) ds) (drop (length ds) is))
unfolding first_number
first_end ds is = let h : length ds ≤ length ds = omega arith in rw (drop_of_length-le ds h) refl

pub first_on : (ds is : List ℕ) (k n : ℕ) → n ≡ capped (first_number (drop k ds) (drop k is)) → 0 < k → k ≤ length ds → length ds ≡ length is
    → 0 < get_or ds (k - 1) 0 → (n' : ℕ) → n' ≡ capped (capped (n * get_or ds (k - 1) 0) + get_or is (k - 1) 0)
    → n' ≡ capped (first_number (drop (k - 1) ds) (drop (k - 1) is))
unfolding first_number
first_on ds is zero n c p q l h n' e = absurd (omega arith)
first_on ds is (suc j) n c p q l h n' e =
    let s : suc j - 1 ≡ j = omega arith in
    let g = rw s at h in
    let f = rw s at e in
    let d = get_or ds j 0 in
    let i = get_or is j 0 in
    let x = first_number (drop (suc j) ds) (drop (suc j) is) in
    rw (s, drop-cons ds j 0 (omega arith), drop-cons is j 0 (omega arith))
    (f ∙ ap (λ m. capped (capped (m * d) + i)) c ∙ capped_longer x d i g ∙ rw (mul_comm x d) (omega arith))
