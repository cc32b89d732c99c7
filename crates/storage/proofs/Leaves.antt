-- One value of a schema's members: a slot for each leaf, at its offset. Assumes nothing.
use Prim.Native.Nat.{ℕ, suc, ◌+◌, ◌≤◌}
use mathlib.Core.Path.{◌≡◌, refl, sym, subst, ap}
use mathlib.Core.List.Memᴰ
use mathlib.Core.List.{[], ◌∷◌, ◌++◌, Memᴰ}
use mathlib.Core.Logic.{inl, inr}
use native.Mathlib.Omega.{arith}
use Rattle.format.specs.Conditions.{when◌then◌else◌}
use Rattle.format.specs.Marks.{Opening, bracket, brace, width}
use Rattle.format.specs.Tokens.{Token, key as kind_of_key, leaf as kind_of_leaf, is_kind, Forest, none, node, size}
use Rattle.format.specs.Records.{member_width}
use Rattle.format.specs.Storage.{Slot, leaves}
use Rattle.format.proofs.Forests.{leaf_width}
use Rattle.laws.specs.Places.{At, here, under, later}
use Rattle.laws.proofs.Schemas.{group_kind}
use Rattle.laws.proofs.Order.{group_kind_lem}
use Rattle.laws.proofs.Slots.{leaf_is, member_width_lem}
use Rattle.storage.specs.Places.{Field, own, next}
use Rattle.storage.proofs.KindNumbers.{key_no_leaf, group_no_leaf}
use Rattle.storage.proofs.Places.{no_at}
use Rattle.storage.proofs.Offsets.{Placed, placed_none, placed_key, placed_leaf, placed_group}

-- what a member takes of a record: a key nothing, a schema or fixed array its width, as a leaf does
key_width : (t : Token) → t.kind ≡ kind_of_key → member_width t ≡ 0
unfolding member_width is_kind when◌then◌else◌
key_width t e = rw e

group_width : (o : Opening) (t : Token) → t.kind ≡ group_kind o → member_width t ≡ t.extent
group_width o t e = member_width_lem t (rw e (group_kind_lem o))

-- the slot of a leaf
abbrev pub leaf_slot : {A : Type 0} → ℕ → Token → A → ℕ → Slot A
leaf_slot leaf_row l a offset = record { leaf_row = leaf_row; element = a; mark = l.mark; offset = offset; wide = l.extent }

-- and of an element
abbrev pub element_slot : {A : Type 0} → ℕ → ℕ → A → ℕ → Slot A
element_slot row mark a offset = record { leaf_row = row; element = a; mark = mark; offset = offset; wide = width mark }

module _ {A : Type 0} (a : A) where
  -- the slots of a member and those after it, by its kind
  leaves_key : (n at : ℕ) (t : Token) (after : Forest) → t.kind ≡ kind_of_key → leaves n (node t none after) a at ≡ leaves (suc n + size none) after a at
  unfolding leaves member_width is_kind when◌then◌else◌
  leaves_key n at t after e = let z : at + 0 ≡ at = omega arith in rw (e, z)

  leaves_leaf : (n at : ℕ) (t : Token) (after : Forest) → t.kind ≡ kind_of_leaf
      → leaves n (node t none after) a at ≡ leaf_slot n t a at ∷ leaves (suc n + size none) after a (at + t.extent)
  unfolding leaves member_width is_kind when◌then◌else◌
  leaves_leaf n at t after e = rw e

  leaves_group : (o : Opening) (n at : ℕ) (t : Token) (below after : Forest) → t.kind ≡ group_kind o
      → leaves n (node t below after) a at ≡ leaves (suc n) below a at ++ leaves (suc n + size below) after a (at + t.extent)
  unfolding leaves member_width is_kind when◌then◌else◌
  leaves_group bracket n at t below after e = rw e
  leaves_group brace n at t below after e = rw e

  leaves_none : (n at : ℕ) → leaves n none a at ≡ []
  unfolding leaves
  leaves_none n at = refl

  -- every leaf has its slot: from the value's first byte on, as far as its offset is from the first member's
  pub in_leaves : {offset n leaf_row : ℕ} {f v : Forest} {l : Token} → Placed offset f → At n f leaf_row l v → l.kind ≡ kind_of_leaf
      → (at place : ℕ) → place + offset ≡ at + l.payload → Memᴰ (leaf_slot leaf_row l a place) (leaves n f a at)
  in_leaves placed_none x k at place q = absurd (no_at x)
  in_leaves (placed_key {t = t} {after = after} e r) here k at place q = absurd (key_no_leaf e k)
  in_leaves (placed_key {t = t} {after = after} e r) (under x) k at place q = absurd (no_at x)
  in_leaves {n = n} (placed_key {t = t} {after = after} e r) (later x) k at place q = rw (leaves_key n at t after e) (in_leaves r x k at place q)
  in_leaves {n = n} (placed_leaf {t = t} {after = after} e p r) here k at place q =
      let d : place ≡ at = omega arith in
      rw (leaves_leaf n at t after e) (Memᴰ.head (ap (leaf_slot n t a) d))
  in_leaves (placed_leaf {t = t} {after = after} e p r) (under x) k at place q = absurd (no_at x)
  in_leaves {n = n} (placed_leaf {t = t} {after = after} e p r) (later x) k at place q =
      rw (leaves_leaf n at t after e) (Memᴰ.tail (in_leaves r x k (at + t.extent) place (omega arith)))
  in_leaves (placed_group o {t = t} e p w u r) here k at place q = absurd (group_no_leaf o e k)
  in_leaves {n = n} (placed_group o {t = t} {below = below} {after = after} e p w u r) (under x) k at place q =
      rw (leaves_group o n at t below after e) (Memᴰ.append_left _ (in_leaves u x k at place q))
  in_leaves {n = n} (placed_group o {t = t} {below = below} {after = after} e p w u r) (later x) k at place q =
      rw (leaves_group o n at t below after e) (Memᴰ.append_right (leaves (suc n) below a at) (in_leaves r x k (at + t.extent) place (omega arith)))

  -- and every slot is a leaf's
  pub record LeafSlot (n at offset : ℕ) (f : Forest) (s : Slot A) : Type 0 where
    pub token : Token
    pub beneath : Forest
    pub found : At n f s.leaf_row token beneath
    pub is_leaf : token.kind ≡ kind_of_leaf
    pub slot_is : s ≡ leaf_slot s.leaf_row token a s.offset
    pub place_is : s.offset + offset ≡ at + token.payload

  leaf_later : {n : ℕ} {t : Token} {below after : Forest} {s : Slot A} (at offset at' offset' : ℕ) → at' + offset ≡ at + offset'
      → LeafSlot (suc n + size below) at' offset' after s → LeafSlot n at offset (node t below after) s
  leaf_later at offset at' offset' e x = record {
    token = x.token;
    beneath = x.beneath;
    found = later x.found;
    is_leaf = x.is_leaf;
    slot_is = x.slot_is;
    place_is = let q = x.place_is in omega arith;
  }

  pub of_leaves : {offset : ℕ} {f : Forest} {s : Slot A} (n at : ℕ) → Placed offset f → Memᴰ s (leaves n f a at) → LeafSlot n at offset f s
  of_leaves n at placed_none m = absurd (Memᴰ.not-nil (rw (leaves_none n at) at m))
  of_leaves n at (placed_key {offset = offset} {t = t} {after = after} e r) m =
      leaf_later at offset at offset refl (of_leaves _ at r (rw (leaves_key n at t after e) at m))
  of_leaves {s = s} n at (placed_leaf {offset = offset} {t = t} {after = after} e p r) m = elim (Memᴰ.cases_cons (rw (leaves_leaf n at t after e) at m)) [
    | inl q ↦ (
        let d : at + offset ≡ at + t.payload = omega arith in
        subst (λ x. LeafSlot n at offset (node t none after) x) (sym q) (record { token = t; beneath = none; found = here; is_leaf = e; slot_is = refl; place_is = d }))
    | inr h ↦ leaf_later at offset (at + t.extent) (offset + t.extent) (omega arith) (of_leaves _ (at + t.extent) r h)
  ]
  of_leaves n at (placed_group {offset = offset} o {t = t} {below = below} {after = after} e p w u r) m =
      elim (Memᴰ.append_cases (leaves (suc n) below a at) (rw (leaves_group o n at t below after e) at m)) [
        | inl h ↦ (let x = of_leaves (suc n) at u h in record { token = x.token; beneath = x.beneath; found = under x.found; is_leaf = x.is_leaf; slot_is = x.slot_is; place_is = x.place_is })
        | inr h ↦ leaf_later at offset (at + t.extent) (offset + t.extent) (omega arith) (of_leaves _ (at + t.extent) r h)
      ]

-- a leaf stands at the first member's offset or later
pub leaf_from : {offset n leaf_row : ℕ} {f v : Forest} {l : Token} → Placed offset f → At n f leaf_row l v → l.kind ≡ kind_of_leaf → offset ≤ l.payload
leaf_from placed_none x k = absurd (no_at x)
leaf_from (placed_key e r) here k = absurd (key_no_leaf e k)
leaf_from (placed_key e r) (under x) k = absurd (no_at x)
leaf_from (placed_key e r) (later x) k = leaf_from r x k
leaf_from (placed_leaf e p r) here k = omega arith
leaf_from (placed_leaf e p r) (under x) k = absurd (no_at x)
leaf_from (placed_leaf e p r) (later x) k = let y = leaf_from r x k in omega arith
leaf_from (placed_group o e p w u r) here k = omega arith
leaf_from (placed_group o e p w u r) (under x) k = leaf_from u x k
leaf_from (placed_group o e p w u r) (later x) k = let y = leaf_from r x k in omega arith

-- ---- fields

-- a member by itself, and those after it
pub alone : {offset : ℕ} {t : Token} {below after : Forest} → Placed offset (node t below after) → Placed offset (node t below none)
alone (placed_key e r) = placed_key e placed_none
alone (placed_leaf e p r) = placed_leaf e p placed_none
alone (placed_group o e p w u r) = placed_group o e p w u placed_none

pub rest : {offset : ℕ} {t : Token} {below after : Forest} → Placed offset (node t below after) → Placed (offset + member_width t) after
rest {offset} (placed_key {t = t} {after = after} e r) = let q : offset ≡ offset + member_width t = omega (arith, key_width t e) in subst (λ x. Placed x after) q r
rest {offset} (placed_leaf {t = t} e p r) = rw (leaf_width t (rw e leaf_is)) r
rest {offset} (placed_group o {t = t} e p w u r) = rw (group_width o t e) r

-- a member that is a leaf or holds one is no key
pub holds_leaf : {offset n leaf_row : ℕ} {t l : Token} {below v : Forest} → Placed offset (node t below none) → At n (node t below none) leaf_row l v → l.kind ≡ kind_of_leaf
    → (t.payload ≡ offset) × (member_width t ≡ t.extent)
holds_leaf (placed_key e r) here k = absurd (key_no_leaf e k)
holds_leaf (placed_key e r) (under x) k = absurd (no_at x)
holds_leaf (placed_key e r) (later x) k = absurd (no_at x)
holds_leaf (placed_leaf {t = t} e p r) x k = (p, leaf_width t (rw e leaf_is))
holds_leaf (placed_group o {t = t} e p w u r) x k = (p, group_width o t e)

-- a leaf stands in its field
pub field_from : {offset n row leaf_row : ℕ} {f : Forest} {u l : Token} → Placed offset f → Field n f row u leaf_row l → l.kind ≡ kind_of_leaf → u.payload ≤ l.payload
field_from p (own x) k = let h = holds_leaf (alone p) x k in let g = leaf_from (alone p) x k in omega arith
field_from {offset} p (next {u = u} x) k = field_from {offset = offset + member_width u} (rest p) x k
