-- The counts that reading gives: a plain count, or one to eight dimensions and their product. Assumes nothing.
use Prim.Native.Nat.{ℕ, zero, suc, ◌+◌, ◌≤◌}
use mathlib.Core.Path.{◌≡◌, refl}
use mathlib.Core.Bool.{Bool, true, false, ◌&&◌, false≢true}
use mathlib.Core.List.{List}
use native.Mathlib.Omega.{arith}
use lib.ListN.{length}
use lib.Dec.{leb, eqb}
use borrow.Author.Tests.{leb-true}
use Rattle.format.specs.Conditions.{between}
use Rattle.format.specs.Limits.{dimension_limit}
use Rattle.format.specs.Marks.{is_integer, '['}
use Rattle.format.specs.Tokens.{dimension as kind_of_dimension, plain_count, first_slowest, first_fastest, Token, Forest, none, node, size, ◌⊕◌, counts}
use Rattle.format.specs.Indexes.{product}
use Rattle.format.specs.Sequences.{Reader, ◌⨾◌, repeat}
use Rattle.format.specs.Dimensions as Dimensions
use Rattle.laws.proofs.Holds.{Holds, holds, bind_law, then_law, if_law, seq_law, other, guard_law, any_law, weaken}
use Rattle.format.proofs.Forests.{size_append}
use Rattle.laws.proofs.Schemas.{Is, Gives}
use Rattle.laws.proofs.Bounds.{one_of_law}

-- dimensions side by side
pub data Dimensioned : Forest → Type 0 where
  no_dimension : Dimensioned none
  one_dimension : {t : Token} {after : Forest} → Is kind_of_dimension is_integer t → Dimensioned after → Dimensioned (node t none after)

dimensions_append : {f g : Forest} → Dimensioned f → Dimensioned g → Dimensioned (f ⊕ g)
unfolding ◌⊕◌
dimensions_append no_dimension q = q
dimensions_append (one_dimension i r) q = one_dimension i (dimensions_append r q)

pub counts-length : {f : Forest} → Dimensioned f → length (counts f) ≡ size f
unfolding counts size
counts-length no_dimension = refl
counts-length (one_dimension i r) = let e = counts-length r in omega arith

-- from `least` to `most` of them
pub record Vector (least most : ℕ) (f : Forest) : Type 0 where
  pub dimensioned : Dimensioned f
  pub enough : least ≤ size f
  pub few : size f ≤ most

-- a count in its order, which is at most `highest`, with its dimensions
pub data Shaped (highest : ℕ) : ℕ → ℕ → Forest → Type 0 where
  plain : {n : ℕ} → Shaped highest plain_count n none
  vector : {order : ℕ} {f : Forest} → eqb order plain_count ≡ false → order ≤ highest → Vector 1 dimension_limit f → Shaped highest order (product (counts f)) f

pub order_most : {highest order n : ℕ} {f : Forest} → Shaped highest order n f → order ≤ highest
order_most plain = omega arith
order_most (vector e h v) = h

-- ---- reading

vector_append : {a b c d : ℕ} {f g : Forest} (least most : ℕ) → least ≤ a + c → b + d ≤ most → Vector a b f → Vector c d g → Vector least most (f ⊕ g)
vector_append {f = f} {g = g} least most h k p q =
    let e = size_append f g in
    record { dimensioned = dimensions_append p.dimensioned q.dimensioned; enough = omega arith; few = omega arith }

no_vector : (most : ℕ) → Vector 0 most none
unfolding size
no_vector most = record { dimensioned = no_dimension; enough = omega arith; few = omega arith }

seq_vector : {a b c d : ℕ} (least most : ℕ) (one next : Reader) → least ≤ a + c → b + d ≤ most → Gives (Vector a b) one → Gives (Vector c d) next
    → Gives (Vector least most) (one ⨾ next)
seq_vector least most one next h k p q at row = seq_law one next at row (p at row) λ f hf. weaken (λ g hg. vector_append least most h k hf hg) (q _ _)

repeat_vector : (n : ℕ) (item : Reader) → Gives (Vector 1 1) item → Gives (Vector n n) (repeat n item)
unfolding repeat
repeat_vector zero item p at row = holds (no_vector 0)
repeat_vector (suc n) item p at row = seq_vector (suc n) (suc n) item (repeat n item) (omega arith) (omega arith) p (repeat_vector n item p) at row

-- the highest order that a shape may have
abbrev pub highest_order : Bool → ℕ
highest_order true = first_fastest
highest_order false = first_slowest

module _ (m : List ℕ) (rows_lent : ℕ) where
  dimension_gives : (mark start : ℕ) → is_integer mark ≡ true → Gives (Vector 1 1) (Dimensions.dimension m rows_lent mark start)
  unfolding Dimensions.dimension size
  dimension_gives mark start h at row = then_law (any_law _) λ _. bind_law (any_law _) λ _ _.
      holds (record { dimensioned = one_dimension (record { kind_is = refl; mark_is = h; order_is = refl }) no_dimension; enough = omega arith; few = omega arith })

  marked_gives : Gives (Vector 1 1) (Dimensions.marked m rows_lent)
  unfolding Dimensions.marked
  marked_gives at row = bind_law (one_of_law m _ _) λ mark h. dimension_gives mark (at + 1) h.1 at row

  bare_gives : (mark : ℕ) → is_integer mark ≡ true → Gives (Vector 1 1) (Dimensions.bare m rows_lent mark)
  unfolding Dimensions.bare
  bare_gives mark h at row = bind_law (any_law _) λ _ _. dimension_gives mark at h at row

  listed_gives : (left place : ℕ) → Gives (Vector 0 left) (Dimensions.listed m rows_lent (suc left) place)
  unfolding Dimensions.listed
  listed_gives zero place at row = bind_law (any_law _) λ _ _. if_law _ (λ _. holds (no_vector 0)) λ _.
      seq_law (Dimensions.marked m rows_lent) _ at row (any_law _) λ _ _. other refl
  listed_gives (suc left) place at row = bind_law (any_law _) λ _ _. if_law _ (λ _. holds (no_vector (suc left))) λ _.
      seq_vector 0 (suc left) (Dimensions.marked m rows_lent) (Dimensions.listed m rows_lent (suc left) place) (omega arith) (omega arith) marked_gives (listed_gives left place) at row

  vector_widen : (n : ℕ) (f : Forest) → between 1 dimension_limit n ≡ true → Vector n n f → Vector 1 dimension_limit f
  unfolding between
  vector_widen n f h v = go (leb 1 n) refl h
    where
      go : (b : Bool) → leb 1 n ≡ b → (b && leb n dimension_limit) ≡ true → Vector 1 dimension_limit f
      go true e k =
          let x = leb-true 1 n e in
          let y = leb-true n dimension_limit k in
          record { dimensioned = v.dimensioned; enough = let z = v.enough in omega arith; few = let z = v.few in omega arith }
      go false e k = absurd (false≢true k)

  counted_gives : (place : ℕ) (item : Reader) → Gives (Vector 1 1) item → Gives (Vector 1 dimension_limit) (Dimensions.counted m rows_lent place item)
  unfolding Dimensions.counted
  counted_gives place item p at row = bind_law (any_law _) λ n _. then_law (guard_law _ _ _ refl) λ h.
      weaken (λ r v. vector_widen n.0 r.0 h v) (repeat_vector n.0 item p _ _)

  vector_gives : (place : ℕ) → Gives (Vector 1 dimension_limit) (Dimensions.vector m rows_lent place)
  unfolding Dimensions.vector Dimensions.counted_bare
  vector_gives place at row = bind_law (any_law _) λ _ _. if_law _ (λ _. other refl) λ _.
      if_law _ (λ _. counted_gives place _ marked_gives _ row) λ _.
      if_law _ (λ _. bind_law (one_of_law m _ _) λ mark h. bind_law (any_law _) λ _ _. counted_gives place _ (bare_gives mark h.1) _ row) λ _.
      seq_vector 1 dimension_limit (Dimensions.marked m rows_lent) (Dimensions.listed m rows_lent dimension_limit place) (omega arith) (omega arith) marked_gives (listed_gives 7 place) at row

  pub shape_gives : (may_wrap : Bool) (at row : ℕ)
      → Holds (Unit {0}) (λ r. Shaped (highest_order may_wrap) r.0.order r.0.many r.0.dimensions) (Dimensions.shape m rows_lent may_wrap at row)
  unfolding Dimensions.shape Dimensions.plain Dimensions.slowest Dimensions.fastest Dimensions.shaped
  shape_gives may_wrap at row = bind_law (any_law _) λ b _.
      if_law _ (λ _. bind_law (any_law _) λ _ _. holds plain)
      (λ _. bind_law (any_law _) λ c _. if_law _
      (λ w. bind_law (vector_gives at (at + 2) row) λ d h. bind_law (any_law _) λ _ _. holds (vector refl (wrapped may_wrap (eqb c '[') w) h))
      (λ _. bind_law (vector_gives at (at + 1) row) λ d h. holds (vector refl (unwrapped may_wrap) h)))
    where
      wrapped : (may b : Bool) → (b && may) ≡ true → first_fastest ≤ highest_order may
      wrapped true b e = omega arith
      wrapped false true e = absurd (false≢true e)
      wrapped false false e = absurd (false≢true e)

      unwrapped : (may : Bool) → first_slowest ≤ highest_order may
      unwrapped true = omega arith
      unwrapped false = omega arith
