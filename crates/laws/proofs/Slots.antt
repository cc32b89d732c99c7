-- The slots of a payload lie end to end, and so inside it. Assumes nothing.
use Prim.Native.Nat.{ℕ, zero, suc, ◌+◌, ◌*◌, ◌≤◌}
use mathlib.Core.Path.{◌≡◌, refl, sym, subst₂, ap, ◌∙◌}
use mathlib.Core.Bool.{Bool, true, false}
use mathlib.Core.List.{List, [], ◌∷◌, ◌++◌}
use native.Mathlib.Omega.{arith}
use native.Mathlib.Nat.{suc-mul, mul-add, le_trans}
use lib.ListN.{length}
use Rattle.format.specs.Conditions.{when◌then◌else◌}
use Rattle.format.specs.Marks.{Opening, bracket, brace, width}
use Rattle.format.specs.Tokens.{Token, leaf as kind_of_leaf, is_kind, Forest, none, node, below_first}
use Rattle.format.specs.Records.{member_width, total_width}
use Rattle.format.specs.Indexes.{count_from}
use Rattle.format.specs.Storage.{Slot, end_to_end, elements, leaves, by_rows, by_columns, records}
use Rattle.laws.specs.Tiles.{Tiles, no_slot, next_slot}
use Rattle.laws.proofs.Schemas.{group_kind, Members, no_more, key, leaf, group}
use Rattle.laws.proofs.Order.{OfSchema, leaf_kind, group_kind_lem}

-- a leaf, with nothing below it, or a token that is as wide as those below it
pub data Measured : Forest → Type 0 where
  nothing : Measured none
  of_leaf : {t : Token} {after : Forest} → t.kind ≡ kind_of_leaf → Measured after → Measured (node t none after)
  wide : {t : Token} {below after : Forest} → is_kind kind_of_leaf t.kind ≡ false → total_width below ≡ member_width t → Measured below → Measured after
      → Measured (node t below after)

-- a member by itself, and those after it
alone : {t : Token} {below after : Forest} → Measured (node t below after) → Measured (node t below none)
alone (of_leaf k r) = of_leaf k nothing
alone (wide k h u r) = wide k h u nothing

others : {t : Token} {below after : Forest} → Measured (node t below after) → Measured after
others (of_leaf k r) = r
others (wide k h u r) = r

-- a leaf's kind is a leaf's
pub leaf_is : is_kind kind_of_leaf kind_of_leaf ≡ true
unfolding is_kind
leaf_is = refl

group_no_leaf : (o : Opening) → is_kind kind_of_leaf (group_kind o) ≡ false
unfolding is_kind
group_no_leaf bracket = refl
group_no_leaf brace = refl

-- a schema's token that is no key
pub member_width_lem : (t : Token) → OfSchema t.kind → member_width t ≡ t.extent
unfolding member_width when◌then◌else◌
member_width_lem t s = rw s.not_key

module _ {A : Type 0} where
  -- every slot ends by `end`
  pub data Inside (end : ℕ) : List (Slot A) → Type 0 where
    nil : Inside end []
    slot : {s : Slot A} {ss : List (Slot A)} → s.offset + s.wide ≤ end → Inside end ss → Inside end (s ∷ ss)

  pub inside_widen : {end : ℕ} {ss : List (Slot A)} (end' : ℕ) → end ≤ end' → Inside end ss → Inside end' ss
  inside_widen end' h nil = nil
  inside_widen end' h (slot k i) = slot (le_trans k h) (inside_widen end' h i)

  -- ---- end to end

  -- a constructor as a function: what is expected decides the numbers before `omega` is asked
  no_slot_lem : {from end : ℕ} → from ≡ end → Tiles {A = A} end from []
  no_slot_lem h = no_slot h

  pub tiles_at : {from end : ℕ} {ss : List (Slot A)} (from' end' : ℕ) → from ≡ from' → end ≡ end' → Tiles end from ss → Tiles end' from' ss
  tiles_at {ss = ss} from' end' p q t = subst₂ (λ x y. Tiles y x ss) p q t

  tiles_append : {mid end from : ℕ} {ss ts : List (Slot A)} → Tiles mid from ss → Tiles end mid ts → Tiles end from (ss ++ ts)
  tiles_append (no_slot h) b = tiles_at _ _ (sym h) refl b
  tiles_append (next_slot h a) b = next_slot h (tiles_append a b)

  pub tiles_end : {end from : ℕ} {ss : List (Slot A)} → Tiles end from ss → from ≤ end
  tiles_end (no_slot h) = omega arith
  tiles_end (next_slot h r) = let x = tiles_end r in omega arith

  tiles_inside : {end from : ℕ} {ss : List (Slot A)} → Tiles end from ss → Inside end ss
  tiles_inside (no_slot h) = nil
  tiles_inside {end = end} (next_slot {s = s} h r) = let x = tiles_end r in let k : s.offset + s.wide ≤ end = omega arith in slot k (tiles_inside r)

  end_to_end_tiles : (l : List A) (w : ℕ) (cut : A → ℕ → List (Slot A)) → ((a : A) (at : ℕ) → Tiles (at + w) at (cut a at)) → (at : ℕ)
      → Tiles (at + length l * w) at (end_to_end l w cut at)
  unfolding end_to_end
  end_to_end_tiles [] w cut c at = no_slot_lem (omega arith)
  end_to_end_tiles (a ∷ l) w cut c at = tiles_append (c a at) (tiles_at _ _ refl (omega (arith, suc-mul (length l) w)) (end_to_end_tiles l w cut c (at + w)))

  -- ---- packed arrays

  pub elements_tile : (row mark : ℕ) (l : List A) → Tiles (length l * width mark) 0 (elements row mark l)
  unfolding elements
  elements_tile row mark l = tiles_at 0 _ refl (omega arith) (end_to_end_tiles l (width mark) _ (λ a at. next_slot refl (no_slot_lem refl)) 0)

  pub elements_inside : (row mark : ℕ) (l : List A) → Inside (length l * width mark) (elements row mark l)
  elements_inside row mark l = tiles_inside (elements_tile row mark l)

  -- ---- tables

  leaves_tile : {f : Forest} → Measured f → (n : ℕ) (a : A) (at : ℕ) → Tiles (at + total_width f) at (leaves n f a at)
  unfolding leaves total_width when◌then◌else◌
  leaves_tile nothing n a at = no_slot_lem (omega arith)
  leaves_tile (of_leaf {t = t} k r) n a at =
      let b : is_kind kind_of_leaf t.kind ≡ true = rw k leaf_is in
      rw (b, member_width_lem t (rw k leaf_kind)) (next_slot refl (tiles_at _ _ refl (omega arith) (leaves_tile r _ a (at + t.extent))))
  leaves_tile (wide {t = t} k h u r) n a at =
      rw k (tiles_append (tiles_at at (at + member_width t) refl (omega arith) (leaves_tile u (suc n) a at))
      (tiles_at _ _ refl (omega arith) (leaves_tile r _ a (at + member_width t))))

  by_columns_tile : (f : Forest) → Measured f → (n : ℕ) (l : List A) (at : ℕ) → Tiles (at + length l * total_width f) at (by_columns n f l at)
  unfolding by_columns total_width
  by_columns_tile none h n l at = no_slot_lem (omega arith)
  by_columns_tile (node t below after) h n l at =
      tiles_append (end_to_end_tiles l (member_width t) _ (λ a b. tiles_at b _ refl (omega arith) (leaves_tile (alone h) n a b)) at)
      (tiles_at _ _ refl (omega (arith, mul-add (length l) (member_width t) (total_width after))) (by_columns_tile after (others h) _ l (at + length l * member_width t)))

  pub records_tile : (o : Opening) (n : ℕ) {f : Forest} → Measured f → (l : List A) → Tiles (length l * total_width f) 0 (records o n f l)
  unfolding records by_rows
  records_tile bracket n h l = tiles_at 0 _ refl (omega arith) (end_to_end_tiles l _ _ (λ a at. leaves_tile h n a at) 0)
  records_tile brace n {f} h l = tiles_at 0 _ refl (omega arith) (by_columns_tile f h n l 0)

  pub records_inside : (o : Opening) (n : ℕ) {f : Forest} → Measured f → (l : List A) → Inside (length l * total_width f) (records o n f l)
  records_inside o n h l = tiles_inside (records_tile o n h l)

-- as many numbers as counted
pub length_count : (k n : ℕ) → length (count_from k n) ≡ n
unfolding count_from
length_count k zero = refl
length_count k (suc n) = ap suc (length_count (suc k) n)

-- ---- what reads a schema gives such tokens

pub members_measured : {k due : Bool} {f : Forest} → Members k due f → Measured f
unfolding total_width member_width is_kind when◌then◌else◌
members_measured no_more = nothing
members_measured (key {t = t} i r) =
    let k : is_kind kind_of_leaf t.kind ≡ false = rw i.kind_is in
    let w : total_width none ≡ member_width t = rw i.kind_is in
    wide k w nothing (members_measured r)
members_measured (leaf i r) = of_leaf i.kind_is (members_measured r)
members_measured (group o {t = t} {below = below} i e u r) =
    let k : is_kind kind_of_leaf t.kind ≡ false = rw i.kind_is (group_no_leaf o) in
    wide k (sym (member_width_lem t (rw i.kind_is (group_kind_lem o)) ∙ e)) (members_measured u) (members_measured r)

pub below_measured : {f : Forest} → Measured f → Measured (below_first f)
unfolding below_first
below_measured nothing = nothing
below_measured (of_leaf k r) = nothing
below_measured (wide k h u r) = u

pub below_narrower : {f : Forest} → Measured f → total_width (below_first f) ≤ total_width f
unfolding below_first total_width
below_narrower nothing = omega arith
below_narrower (of_leaf k r) = omega arith
below_narrower (wide k h u r) = omega arith
