-- The forests in which no payload is cut into slots: schemas and dimensions. Assumes nothing.
use Prim.Native.Nat.{ℕ}
use mathlib.Core.Path.{◌≡◌, refl, sym, ◌∙◌}
use mathlib.Core.Bool.{Bool, true, false, false≢true}
use mathlib.Core.Logic.{◌⊎◌, inl, inr}
use Rattle.format.specs.Conditions.{when◌then◌else◌}
use Rattle.format.specs.Tokens.{Token, Kind, key as kind_of_key, dimension as kind_of_dimension, is_kind, Forest, none, node, ◌⊕◌}
use Rattle.format.specs.Records.{at_offset, placed}
use Rattle.laws.specs.Places.{IsCut, InSlots, in_own, in_under, in_later}
use Rattle.laws.proofs.Schemas.{Members, no_more, key, leaf, group}
use Rattle.laws.proofs.Order.{is_cut, OfSchema, leaf_kind, group_kind_lem, key_kind}
use Rattle.laws.proofs.Counts.{Dimensioned, no_dimension, one_dimension, Shaped, plain, vector}

-- no byte is in a payload of the forest that is cut into slots
abbrev pub Slotless : Forest → Type 0
Slotless f = (i : ℕ) → InSlots i f → ⊥

pub none_slotless : Slotless none
none_slotless i c = elim c [ ]

pub slots_split : {i : ℕ} (f : Forest) {g : Forest} → InSlots i (f ⊕ g) → InSlots i f ⊎ InSlots i g
unfolding ◌⊕◌
slots_split none c = inr c
slots_split (node t below after) (in_own k h l) = inl (in_own k h l)
slots_split (node t below after) (in_under c) = inl (in_under c)
slots_split (node t below after) (in_later c) = elim (slots_split after c) [ inl d ↦ inl (in_later d) | inr d ↦ inr d ]

pub append_slotless : (f g : Forest) → Slotless f → Slotless g → Slotless (f ⊕ g)
append_slotless f g u v i c = elim (slots_split f c) [ inl d ↦ u i d | inr d ↦ v i d ]

cut_is : (kind : Kind) → IsCut kind → is_cut kind ≡ true
unfolding is_cut is_kind
cut_is kind (inl e) = rw e
cut_is kind (inr e) = rw e

-- a token that isn't cut: what is in slots is below it or after it
pub uncut_slots : {i : ℕ} {t : Token} {below after : Forest} → is_cut t.kind ≡ false → InSlots i (node t below after) → InSlots i below ⊎ InSlots i after
uncut_slots c (in_own k h l) = absurd (false≢true (sym c ∙ cut_is _ k))
uncut_slots c (in_under d) = inl d
uncut_slots c (in_later d) = inr d

pub uncut_slotless : {t : Token} {below after : Forest} → is_cut t.kind ≡ false → Slotless below → Slotless after → Slotless (node t below after)
uncut_slotless c u v i d = elim (uncut_slots c d) [ inl e ↦ u i e | inr e ↦ v i e ]

-- ---- a schema's tokens when they are given their offsets

key_uncut : is_cut kind_of_key ≡ false
unfolding is_cut is_kind
key_uncut = refl

pub placed_slotless : {k due : Bool} {f : Forest} (at : ℕ) → Members k due f → Slotless (placed at f)
unfolding placed at_offset when◌then◌else◌
placed_slotless at no_more = none_slotless
placed_slotless at (key {t = t} i r) =
    let e : is_kind kind_of_key t.kind ≡ true = rw i.kind_is key_kind in
    rw e (uncut_slotless (rw i.kind_is key_uncut) none_slotless (placed_slotless at r))
placed_slotless at (leaf {t = t} i r) =
    let s : OfSchema t.kind = rw i.kind_is leaf_kind in
    rw s.not_key (uncut_slotless s.uncut none_slotless (placed_slotless _ r))
placed_slotless at (group o {t = t} i _ k r) =
    let s : OfSchema t.kind = rw i.kind_is (group_kind_lem o) in
    rw s.not_key (uncut_slotless s.uncut (placed_slotless at k) (placed_slotless _ r))

-- ---- dimensions

dimension_uncut : is_cut kind_of_dimension ≡ false
unfolding is_cut is_kind
dimension_uncut = refl

dimensions_slotless : {f : Forest} → Dimensioned f → Slotless f
dimensions_slotless no_dimension = none_slotless
dimensions_slotless (one_dimension i r) = uncut_slotless (rw i.kind_is dimension_uncut) none_slotless (dimensions_slotless r)

pub shaped_slotless : {highest order n : ℕ} {f : Forest} → Shaped highest order n f → Slotless f
shaped_slotless plain = none_slotless
shaped_slotless (vector _ _ v) = dimensions_slotless v.dimensioned
