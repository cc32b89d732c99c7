-- The indexes in storage order: they are those in range, and the formula numbers them 0, 1 and so on. Assumes nothing.
use Prim.Native.Nat.{ℕ, zero, suc, ◌+◌, ◌*◌, ◌≤◌, ◌<◌}
use mathlib.Core.Path.{◌≡◌, refl, sym, subst, ap, ◌∙◌}
use mathlib.Core.Bool.{Bool, true, false, ◌&&◌, false≢true}
use mathlib.Core.List.Memᴰ
use mathlib.Core.List.{List, [], ◌∷◌, ◌++◌, map, Memᴰ}
use mathlib.Core.Logic.{◌⊎◌, inl, inr}
use native.Mathlib.Omega.{arith}
use native.Mathlib.Decide.{dec_lt}
use native.Mathlib.Nat.{mul_comm, mul-suc}
use lib.ListN.{length}
use lib.Dec.{ltb, eqb}
use borrow.Author.Tests.{ltb-true, lt-ltb}
use Rattle.format.specs.Conditions.{when◌then◌else◌}
use Rattle.format.specs.Tokens.{first_fastest}
use Rattle.format.specs.Indexes.{product, in_range, count_from, below, each, last_moving, first_moving, indexes, last_number, first_number, number_in}
use Rattle.storage.specs.Addresses.{Below, no_index, index}

-- ---- in range

-- the definition's test says the same
pub below_range : {is ds : List ℕ} → Below is ds → in_range ds is ≡ true
unfolding in_range
below_range no_index = refl
below_range (index {i = i} {d = d} h r) = rw (lt-ltb i d h) (below_range r)

range_below : (ds is : List ℕ) → in_range ds is ≡ true → Below is ds
unfolding in_range
range_below [] [] e = no_index
range_below [] (i ∷ is) e = absurd (false≢true e)
range_below (d ∷ ds) [] e = absurd (false≢true e)
range_below (d ∷ ds) (i ∷ is) e = go (ltb i d) refl e (range_below ds is)
  where
    go : (b : Bool) → ltb i d ≡ b → (b && in_range ds is) ≡ true → (in_range ds is ≡ true → Below is ds) → Below (i ∷ is) (d ∷ ds)
    go true q e rest = index (ltb-true i d q) (rest e)
    go false q e rest = absurd (false≢true e)

-- indexes are in range or not
pub below_case : (ds is : List ℕ) → Below is ds ⊎ (Below is ds → ⊥)
below_case ds is = go (in_range ds is) refl
  where
    go : (b : Bool) → in_range ds is ≡ b → Below is ds ⊎ (Below is ds → ⊥)
    go true e = inl (range_below ds is e)
    go false e = inr (λ h. false≢true (sym e ∙ below_range h))

-- indexes that aren't in range fail the test
pub not_in_range : (ds is : List ℕ) → (Below is ds → ⊥) → in_range ds is ≡ false
not_in_range ds is c = go (in_range ds is) refl
  where
    go : (b : Bool) → in_range ds is ≡ b → b ≡ false
    go true e = absurd (c (range_below ds is e))
    go false e = refl

-- ---- the members of these lists

-- numbers counted
in_count : (i k n : ℕ) → k ≤ i → i < k + n → Memᴰ i (count_from k n)
unfolding count_from
in_count i k zero h q = absurd (omega arith)
in_count i k (suc n) h q = elim (dec_lt k i) [ yes p ↦ Memᴰ.tail (in_count i (suc k) n p (omega arith)) | no p ↦ (let e : i ≡ k = omega arith in Memᴰ.head e) ]

of_count : {i : ℕ} (k n : ℕ) → Memᴰ i (count_from k n) → i < k + n
unfolding count_from
of_count k zero m = absurd (Memᴰ.not-nil m)
of_count k (suc n) m = elim (Memᴰ.cases_cons m) [ inl e ↦ omega arith | inr r ↦ (let x = of_count (suc k) n r in omega arith) ]

pub in_below : (i n : ℕ) → i < n → Memᴰ i (below n)
in_below i n h = in_count i 0 n (omega arith) (omega arith)

pub of_below : {i : ℕ} (n : ℕ) → Memᴰ i (below n) → i < n
of_below n m = let x = of_count 0 n m in omega arith

module _ {A B : Type 0} (f : A → List B) where
  -- what is in a list for one of a list is in them all, and the other way
  in_each : {x : B} {a : A} {l : List A} → Memᴰ a l → Memᴰ x (f a) → Memᴰ x (each l f)
  unfolding each
  in_each {x} (Memᴰ.head e) h = Memᴰ.append_left _ (rw e at h)
  in_each (Memᴰ.tail {x = y} m) h = Memᴰ.append_right (f y) (in_each m h)

  of_each : {x : B} (l : List A) → Memᴰ x (each l f) → (a : A) × Memᴰ a l × Memᴰ x (f a)
  unfolding each
  of_each [] m = absurd (Memᴰ.not-nil m)
  of_each (a ∷ l) m = elim (Memᴰ.append_cases (f a) m) [
    | inl h ↦ (a, Memᴰ.head refl, h)
    | inr h ↦ (let r = of_each l h in (r.0, Memᴰ.tail r.1, r.2))
  ]

-- all indexes in range are there
in_last : {is ds : List ℕ} → Below is ds → Memᴰ is (last_moving ds)
unfolding last_moving
in_last no_index = Memᴰ.head refl
in_last (index {i = i} {d = d} h r) = in_each _ (in_below i d h) (Memᴰ.map (λ js. i ∷ js) (in_last r))

in_first : {is ds : List ℕ} → Below is ds → Memᴰ is (first_moving ds)
unfolding first_moving
in_first no_index = Memᴰ.head refl
in_first (index {i = i} {d = d} {is = is} h r) = in_each _ (in_first r) (Memᴰ.map (λ j. j ∷ is) (in_below i d h))

-- and no others
of_last : {is : List ℕ} (ds : List ℕ) → Memᴰ is (last_moving ds) → Below is ds
unfolding last_moving
of_last [] m = rw (Memᴰ.eq_of_singleton m) no_index
of_last (d ∷ ds) m =
    let r = of_each _ (below d) m in
    let s = Memᴰ.of_map _ _ r.2 in
    subst (λ js. Below js (d ∷ ds)) s.2 (index (of_below d r.1) (of_last {is = s.0} ds s.1))

of_first : {is : List ℕ} (ds : List ℕ) → Memᴰ is (first_moving ds) → Below is ds
unfolding first_moving
of_first [] m = rw (Memᴰ.eq_of_singleton m) no_index
of_first (d ∷ ds) m =
    let r = of_each _ (first_moving ds) m in
    let s = Memᴰ.of_map _ _ r.2 in
    subst (λ js. Below js (d ∷ ds)) s.2 (index (of_below d s.1) (of_first {is = r.0} ds r.1))

-- ---- their numbers

-- the numbers of a list's members are k, k + 1 and so on, below end
pub data Numbered {A : Type 0} (number : A → ℕ) (end : ℕ) : ℕ → List A → Type 0 where
  stop : {k : ℕ} → k ≡ end → Numbered number end k []
  step : {k : ℕ} {a : A} {l : List A} → number a ≡ k → Numbered number end (suc k) l → Numbered number end k (a ∷ l)

module _ {A : Type 0} {number : A → ℕ} where
  -- the constructors as functions: what is expected decides the numbers before `omega` is asked
  ended : {k end : ℕ} → k ≡ end → Numbered number end k []
  ended h = stop h

  counted : {k end : ℕ} {a : A} {l : List A} → number a ≡ k → Numbered number end (suc k) l → Numbered number end k (a ∷ l)
  counted h r = step h r

  -- said with other numbers that are the same
  numbered_at : {end k : ℕ} {l : List A} (k' end' : ℕ) → k ≡ k' → end ≡ end' → Numbered number end k l → Numbered number end' k' l
  numbered_at k' end' p q (stop h) = ended (omega arith)
  numbered_at k' end' p q (step h r) = counted (omega arith) (numbered_at (suc k') end' (omega arith) q r)

  -- one list, and then another
  numbered_append : {mid end k : ℕ} {l r : List A} → Numbered number mid k l → Numbered number end mid r → Numbered number end k (l ++ r)
  numbered_append (stop h) b = numbered_at _ _ (sym h) refl b
  numbered_append (step h a) b = step h (numbered_append a b)

  -- as many as there are numbers
  numbered_from : {end k : ℕ} {l : List A} → Numbered number end k l → k + length l ≡ end
  numbered_from (stop h) = omega arith
  numbered_from (step h r) = let x = numbered_from r in omega arith

  -- from 0 on
  pub numbered_length : {end : ℕ} {l : List A} → Numbered number end 0 l → length l ≡ end
  numbered_length n = let x = numbered_from n in omega arith

-- numbers are numbered by themselves
numbered_count : (k n : ℕ) → Numbered (λ i. i) (k + n) k (count_from k n)
unfolding count_from
numbered_count k zero = ended (omega arith)
numbered_count k (suc n) = step refl (numbered_at (suc k) (k + suc n) refl (omega arith) (numbered_count (suc k) n))

pub numbered_below : (n : ℕ) → Numbered (λ i. i) n 0 (below n)
numbered_below n = numbered_at 0 n refl (omega arith) (numbered_count 0 n)

-- a list of things made of others, whose numbers are `base` higher
numbered_map : {A B : Type 0} {number : A → ℕ} {number' : B → ℕ} {end k : ℕ} {l : List A} (g : A → B) (base : ℕ)
    → ((a : A) → number' (g a) ≡ base + number a) → Numbered number end k l → Numbered number' (base + end) (base + k) (map g l)
numbered_map g base h (stop q) = ended (omega arith)
numbered_map {k = k} g base h (step {a = a} q r) =
    let x = h a in
    counted (omega arith) (numbered_at (suc (base + k)) _ (omega arith) refl (numbered_map g base h r))

-- w for each of a list
numbered_each : {A B : Type 0} {number : A → ℕ} {number' : B → ℕ} (f : A → List B) (w : ℕ)
    → ((a : A) → Numbered number' (w * number a + w) (w * number a) (f a))
    → {end k : ℕ} {l : List A} → Numbered number end k l → Numbered number' (w * end) (w * k) (each l f)
unfolding each
numbered_each f w h (stop q) = stop (ap (λ x. w * x) q)
numbered_each {number' = number'} f w h {k} (step {a = a} q r) =
    numbered_append (subst (λ x. Numbered number' (w * x + w) (w * x) (f a)) q (h a)) (numbered_at _ _ (mul-suc w k) refl (numbered_each f w h r))

-- the last index moving fastest, and the first
numbered_last : (ds : List ℕ) → Numbered (last_number ds) (product ds) 0 (last_moving ds)
unfolding last_moving last_number product
numbered_last [] = step refl (stop refl)
numbered_last (d ∷ ds) =
    numbered_at 0 (d * product ds) (omega arith) (mul_comm (product ds) d)
    (numbered_each _ (product ds) (λ i.
    numbered_at (product ds * i) _ (omega arith) refl
    (numbered_map (λ is. i ∷ is) (product ds * i) (λ is. let e = mul_comm i (product ds) in omega arith) (numbered_last ds))) (numbered_below d))

numbered_first : (ds : List ℕ) → Numbered (first_number ds) (product ds) 0 (first_moving ds)
unfolding first_moving first_number product
numbered_first [] = step refl (stop refl)
numbered_first (d ∷ ds) =
    numbered_at 0 (d * product ds) (omega arith) refl
    (numbered_each _ d (λ is.
    numbered_at (d * first_number ds is) _ (omega arith) refl
    (numbered_map (λ i. i ∷ is) (d * first_number ds is) (λ i. omega arith) (numbered_below d))) (numbered_first ds))

-- ---- in storage order

module _ (order : ℕ) (ds : List ℕ) where
  -- the formula numbers them 0, 1 and so on
  pub indexes_numbered : Numbered (number_in order ds) (product ds) 0 (indexes order ds)
  unfolding indexes number_in when◌then◌else◌
  indexes_numbered = go (eqb order first_fastest)
    where
      go : (b : Bool) → Numbered (λ is. when b then first_number ds is else last_number ds is) (product ds) 0 (when b then first_moving ds else last_moving ds)
      go true = numbered_first ds
      go false = numbered_last ds

  -- all indexes in range are there
  pub in_indexes : {is : List ℕ} → Below is ds → Memᴰ is (indexes order ds)
  unfolding indexes when◌then◌else◌
  in_indexes {is} h = go (eqb order first_fastest)
    where
      go : (b : Bool) → Memᴰ is (when b then first_moving ds else last_moving ds)
      go true = in_first h
      go false = in_last h

  -- and no others
  pub of_indexes : {is : List ℕ} → Memᴰ is (indexes order ds) → Below is ds
  unfolding indexes when◌then◌else◌
  of_indexes {is} m = go (eqb order first_fastest) m
    where
      go : (b : Bool) → Memᴰ is (when b then first_moving ds else last_moving ds) → Below is ds
      go true m = of_first ds m
      go false m = of_last ds m
