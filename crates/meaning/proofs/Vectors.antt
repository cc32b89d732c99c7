-- Counts and dimension vectors in house form are read again as the same. Assumes nothing.
use Prim.Native.Nat.{ℕ, zero, suc, ◌+◌, ◌≤◌}
use mathlib.Core.Path.{◌≡◌, refl, sym, ap, subst}
use mathlib.Core.Bool.{Bool, true, false, not, ◌&&◌, false≢true}
use mathlib.Core.List.{List, [], ◌∷◌, ◌++◌, append_assoc, append-nil}
use native.Mathlib.Omega.{arith}
use lib.Dec.{eqb}
use Rattle.format.specs.Conditions.{when◌then◌else◌, among, all}
use Rattle.format.specs.Limits.{limit, dimension_limit}
use Rattle.format.specs.Marks.{'#', '$', '[', ']'}
use Rattle.format.specs.Tokens.{plain_count, first_slowest, first_fastest, Forest, none, alone, size, ◌⊕◌, members, counts}
use Rattle.format.specs.Indexes.{product}
use Rattle.format.specs.Integers.{smallest}
use Rattle.format.specs.HouseForm.{small_integer, shape, token, house}
use Rattle.format.specs.SameMeaning.{free, has_bytes}
use Rattle.format.specs.Dimensions as Dimensions
use Rattle.format.proofs.Forests.{members_append}
use Rattle.laws.proofs.Counts.{Vector, Shaped, plain, vector, highest_order}
use Rattle.meaning.specs.Standing.{no_token}
use Rattle.meaning.proofs.Same.{nothing, one, same_counts}
use Rattle.meaning.proofs.Numbers.{smallest_passes}
use Rattle.meaning.proofs.Known.{Succeeds, succeeds, after, taken, passed, From, from_past, byte_known, one_of_known, row_known, number_known, integer_known, small_mark}
use Rattle.meaning.proofs.Accepted.{dimension_token}
use Rattle.meaning.proofs.Chains.{closers, Begins, Copy, no_copy, copy_at, Reading, Chain, stop, link, alone_reading, house_append, house_split, begins_append, begun, differs, seq_same, chain_listed, members_few}
use Rattle.meaning.proofs.Scalars.{small_begins}

-- no dimension begins with one of these
unfoldable pub vector_closers : List ℕ
vector_closers = '[' ∷ closers

-- ---- a count as it is written

plain_shape : (n : ℕ) (dims : List ℕ) → shape plain_count n dims ≡ small_integer n
unfolding shape when◌then◌else◌
plain_shape n dims = refl

slowest_shape : (n : ℕ) (dims l : List ℕ) → shape first_slowest n dims ++ l ≡ '[' ∷ (dims ++ ']' ∷ l)
unfolding shape when◌then◌else◌
slowest_shape n dims l = ap (λ x. '[' ∷ x) (append_assoc dims (']' ∷ []) l)

fastest_shape : (n : ℕ) (dims l : List ℕ) → shape first_fastest n dims ++ l ≡ '[' ∷ '[' ∷ (dims ++ ']' ∷ ']' ∷ l)
unfolding shape when◌then◌else◌
fastest_shape n dims l = ap (λ x. '[' ∷ '[' ∷ x) (append_assoc dims (']' ∷ ']' ∷ []) l)

module _ (m h : List ℕ) (rows_lent most : ℕ) (lent : most ≤ rows_lent) where
  -- ---- dimensions

  -- a dimension is a marked integer
  pub dimension_again : (mark at₀ start n : ℕ) → n ≤ limit → Reading m h most vector_closers (Dimensions.marked h rows_lent) (alone (dimension_token mark at₀ start n))
  unfolding token Dimensions.marked Dimensions.dimension size vector_closers closers among all small_integer when◌then◌else◌ free has_bytes
  dimension_again mark at₀ start n u = alone_reading m h most (rw (← append-nil (small_integer n)) (small_begins vector_closers n [] refl)) λ at row l e s.
      one_of_known h _ _ e (small_mark h n u) (row_known h rows_lent at row (omega arith) (number_known h n u at _ (from_past h (smallest n ∷ []) e) λ next e₂.
      succeeds (
        copy_at refl (one (record {
          kinds = refl;
          marks = λ c. absurd (false≢true (sym c));
          payloads = λ c. absurd (false≢true (sym c));
          extents = λ c. absurd (false≢true (sym c));
          counted = refl;
          orders = refl;
          contents = λ b. absurd (false≢true b);
          ids = λ b. absurd (false≢true b);
        }) nothing nothing) no_token,
        e₂,
      )))

  abbrev Dimensioned : Forest → Type 0
  Dimensioned dims = Chain m h most vector_closers (Dimensions.marked h rows_lent) dims

  chain_begins : {dims : Forest} → 1 ≤ size dims → Dimensioned dims → Begins vector_closers (house m dims)
  unfolding size
  chain_begins h stop = absurd (omega arith)
  chain_begins h (link {f = f} {g = g} n p c) = rw (house_append m f g) (begins_append (house m g) p.begins)

  vector_again : {dims : Forest} → Vector 1 dimension_limit dims → Dimensioned dims → (place at row : ℕ) (l : List ℕ)
      → From h at (house m dims ++ ']' ∷ l) → row + size dims ≤ most
      → Succeeds (λ r. Copy m h dims r.0 × From h r.1 l) (Dimensions.vector h rows_lent place at row)
  unfolding Dimensions.vector vector_closers closers among size
  vector_again v stop place at row l e s = absurd (let x = v.enough in omega arith)
  vector_again v (link {f = f} {g = g} n p c) place at row l e s =
      let o = p.begins in
      let d : members g ≤ 7 = let x = v.few in omega (arith, members_few (f ⊕ g), members_append f g) in
      byte_known h _ (begun m h most o (house m g ++ ']' ∷ l) (house_split m h most f g (']' ∷ l) e))
      (passed _ _ (differs vector_closers o.head ']' refl o.fits) (passed _ _ (differs vector_closers o.head '#' refl o.fits) (passed _ _ (differs vector_closers o.head '$' refl o.fits)
      (seq_same m h most (']' ∷ l) (λ next. From h next l) at row p.reads e s λ next row' e' s'.
      chain_listed m h most rows_lent dimension_limit place refl (omega arith) c next row' l e' s'))))

  -- ---- counts

  -- a count as it is written is read again, with the same dimensions
  abbrev pub Shapes : Bool → ℕ → ℕ → Forest → Type 0
  Shapes may_wrap order n dims = (at row : ℕ) (l : List ℕ) → From h at (shape order n (house m dims) ++ l) → row + size dims ≤ most
      → Succeeds (λ r. (r.0.many ≡ n) × (r.0.order ≡ order) × Copy m h dims r.0.dimensions × From h r.1 l) (Dimensions.shape h rows_lent may_wrap at row)

  not_wrapped : (a b : Bool) → a ≡ false → (a && b) ≡ false
  not_wrapped a b e = rw e

  count_again : (may_wrap : Bool) (n : ℕ) → n ≤ limit → Shapes may_wrap plain_count n none
  unfolding Dimensions.shape Dimensions.plain small_integer all
  count_again may_wrap n u at row l e s =
      let e₁ : From h at (small_integer n ++ l) = subst (λ x. From h at (x ++ l)) (plain_shape n (house m none)) e in
      byte_known h _ e₁ (taken _ _ (smallest_passes (λ k. not (eqb k '[')) n refl) (integer_known h n u _ e₁ λ next e₂. succeeds (refl, refl, no_copy m h, e₂)))

  slowest_again : (may_wrap : Bool) {dims : Forest} → Vector 1 dimension_limit dims → Dimensioned dims → Shapes may_wrap first_slowest (product (counts dims)) dims
  unfolding Dimensions.shape Dimensions.slowest Dimensions.shaped vector_closers closers among
  slowest_again may_wrap {dims} v c at row l e s =
      let e₁ : From h at ('[' ∷ (house m dims ++ ']' ∷ l)) = subst (From h at) (slowest_shape (product (counts dims)) (house m dims) l) e in
      let o = chain_begins v.enough c in
      byte_known h _ e₁ (passed _ _ refl (byte_known h _ (begun m h most o _ (from_past h ('[' ∷ []) e₁))
      (passed _ _ (not_wrapped (eqb o.head '[') may_wrap (differs vector_closers o.head '[' refl o.fits))
      (after (vector_again v c at (at + 1) row l (from_past h ('[' ∷ []) e₁) s) λ r hr. succeeds (ap product (same_counts m h hr.0.same), refl, hr.0, hr.1)))))

  fastest_again : {dims : Forest} → Vector 1 dimension_limit dims → Dimensioned dims → Shapes true first_fastest (product (counts dims)) dims
  unfolding Dimensions.shape Dimensions.fastest Dimensions.shaped
  fastest_again {dims} v c at row l e s =
      let e₁ : From h at ('[' ∷ '[' ∷ (house m dims ++ ']' ∷ ']' ∷ l)) = subst (From h at) (fastest_shape (product (counts dims)) (house m dims) l) e in
      byte_known h _ e₁ (passed _ _ refl (byte_known h _ (from_past h ('[' ∷ []) e₁) (taken _ _ refl
      (after (vector_again v c at (at + 2) row (']' ∷ l) (from_past h ('[' ∷ '[' ∷ []) e₁) s) λ r hr.
      one_of_known h _ _ hr.1 refl (succeeds (ap product (same_counts m h hr.0.same), refl, hr.0, from_past h (']' ∷ []) hr.1))))))

  pub shape_again : (may_wrap : Bool) {order n : ℕ} {dims : Forest} → Shaped (highest_order may_wrap) order n dims → n ≤ limit → Dimensioned dims → Shapes may_wrap order n dims
  shape_again may_wrap (plain {n = n}) u c = count_again may_wrap n u
  shape_again may_wrap (vector {order = order} {f = dims} e h v) u c = go may_wrap order e h
    where
      go : (may : Bool) (order : ℕ) → eqb order plain_count ≡ false → order ≤ highest_order may → Shapes may order (product (counts dims)) dims
      go may zero e h = absurd (false≢true (sym e))
      go may (suc zero) e h = slowest_again may v c
      go true (suc (suc zero)) e h = fastest_again v c
      go false (suc (suc zero)) e h = absurd (omega arith)
      go true (suc (suc (suc n))) e h = absurd (omega arith)
      go false (suc (suc (suc n))) e h = absurd (omega arith)
