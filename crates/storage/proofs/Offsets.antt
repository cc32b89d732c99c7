-- The members of a schema at their offsets. Assumes nothing.
use Prim.Native.Nat.{ℕ, ◌+◌}
use mathlib.Core.Path.{◌≡◌, refl, sym, ap, ◌∙◌}
use mathlib.Core.Bool.{Bool, true, false}
use Rattle.format.specs.Conditions.{when◌then◌else◌}
use Rattle.format.specs.Marks.{Opening}
use Rattle.format.specs.Tokens.{Token, Kind, key as kind_of_key, leaf as kind_of_leaf, is_kind, Forest, none, node}
use Rattle.format.specs.Records.{member_width, total_width, at_offset, placed}
use Rattle.laws.proofs.Order.{OfSchema, key_kind, leaf_kind, group_kind_lem}
use Rattle.laws.proofs.Schemas.{Is, group_kind, Members, no_more, key, leaf, group}

-- members with their offsets, the first at `offset`: each stands after the one before, the first below it where it stands itself
pub data Placed : ℕ → Forest → Type 0 where
  placed_none : {offset : ℕ} → Placed offset none
  placed_key : {offset : ℕ} {t : Token} {after : Forest} → t.kind ≡ kind_of_key → Placed offset after → Placed offset (node t none after)
  placed_leaf : {offset : ℕ} {t : Token} {after : Forest} → t.kind ≡ kind_of_leaf → t.payload ≡ offset → Placed (offset + t.extent) after
      → Placed offset (node t none after)
  placed_group : {offset : ℕ} (o : Opening) {t : Token} {below after : Forest} → t.kind ≡ group_kind o → t.payload ≡ offset → t.extent ≡ total_width below
      → Placed offset below → Placed (offset + t.extent) after → Placed offset (node t below after)

-- ---- offsets change neither widths nor what stands where

module _ (offset : ℕ) (t : Token) (below after : Forest) where
  -- a key keeps its place, any other member gets its offset
  key_placed : t.kind ≡ kind_of_key → placed offset (node t below after) ≡ node t below (placed offset after)
  unfolding placed when◌then◌else◌
  key_placed e = let k : is_kind kind_of_key t.kind ≡ true = rw e key_kind in rw k

  pub member_placed : OfSchema t.kind → placed offset (node t below after) ≡ node (at_offset offset t) (placed offset below) (placed (offset + t.extent) after)
  unfolding placed when◌then◌else◌
  member_placed s = rw s.not_key

-- members are as wide as before
pub width_placed : (offset : ℕ) (f : Forest) → total_width (placed offset f) ≡ total_width f
unfolding placed total_width member_width at_offset when◌then◌else◌
width_placed offset none = refl
width_placed offset (node t below after) = go (is_kind kind_of_key t.kind) refl (width_placed offset after) (width_placed (offset + t.extent) after)
  where
    go : (b : Bool) → is_kind kind_of_key t.kind ≡ b → total_width (placed offset after) ≡ total_width after → total_width (placed (offset + t.extent) after) ≡ total_width after
        → total_width (when b then node t below (placed offset after) else node (at_offset offset t) (placed offset below) (placed (offset + t.extent) after))
        ≡ (when b then 0 else t.extent) + total_width after
    go true e p q = rw e (ap (λ w. 0 + w) p)
    go false e p q = rw e (ap (λ w. t.extent + w) q)

-- a token at an offset is of the same kind
pub is_placed : {kind : Kind} {marks : ℕ → Bool} {t : Token} (offset : ℕ) → Is kind marks t → Is kind marks (at_offset offset t)
unfolding at_offset
is_placed offset i = record { kind_is = i.kind_is; mark_is = i.mark_is; order_is = i.order_is }

-- the same members stand there
pub members-placed : {k due : Bool} {f : Forest} (offset : ℕ) → Members k due f → Members k due (placed offset f)
unfolding placed at_offset
members-placed offset no_more = no_more
members-placed offset (key {t = t} {after = after} i r) = rw (key_placed offset t none after i.kind_is) (key i (members-placed offset r))
members-placed offset (leaf {t = t} {after = after} i r) =
    rw (member_placed offset t none after (rw i.kind_is leaf_kind)) (leaf (is_placed offset i) (members-placed (offset + t.extent) r))
members-placed offset (group o {t = t} {below = below} {after = after} i e u r) =
    rw (member_placed offset t below after (rw i.kind_is (group_kind_lem o)))
    (group o (is_placed offset i) (e ∙ sym (width_placed offset below)) (members-placed offset u) (members-placed (offset + t.extent) r))

-- at their offsets
pub offsets_placed : {k due : Bool} {f : Forest} (offset : ℕ) → Members k due f → Placed offset (placed offset f)
unfolding placed at_offset
offsets_placed offset no_more = placed_none
offsets_placed offset (key {t = t} {after = after} i r) = rw (key_placed offset t none after i.kind_is) (placed_key i.kind_is (offsets_placed offset r))
offsets_placed offset (leaf {t = t} {after = after} i r) =
    rw (member_placed offset t none after (rw i.kind_is leaf_kind)) (placed_leaf (is_placed offset i).kind_is refl (offsets_placed (offset + t.extent) r))
offsets_placed offset (group o {t = t} {below = below} {after = after} i e u r) =
    rw (member_placed offset t below after (rw i.kind_is (group_kind_lem o)))
    (placed_group o (is_placed offset i).kind_is refl (e ∙ sym (width_placed offset below)) (offsets_placed offset u) (offsets_placed (offset + t.extent) r))
