-- The search over a schema's members, with their offsets or without, finds the leaf that stands there in schema order. Assumes nothing.
use Prim.Native.Nat.{ℕ, zero, suc, ◌+◌}
use mathlib.Core.Path.{◌≡◌, refl, sym, ◌∙◌, ap}
use mathlib.Core.Bool.{Bool, true, false}
use mathlib.Core.List.{List, [], ◌∷◌, ◌++◌, map, append-nil, Memᴰ}
use native.Mathlib.Omega.{arith}
use Rattle.format.specs.Conditions.{when◌then◌else◌}
use Rattle.format.specs.Outcome.{Outcome, fault, done}
use Rattle.format.specs.Refusals.{not_there}
use Rattle.format.specs.Tokens.{Token, key as kind_of_key, leaf as kind_of_leaf, is_kind, Forest, none, node, size}
use Rattle.format.specs.Records.{member_width, at_offset, placed}
use Rattle.format.specs.Storage.{Slot, leaves}
use Rattle.format.specs.Panel.{pick}
use Rattle.storage.specs.Places.{Field, own, next}
use Rattle.storage.proofs.Offsets.{Placed}
use Rattle.storage.proofs.Leaves.{of_leaves, alone, rest, holds_leaf}
use Rattle.leaf_search.specs.Search.{passed, latest, past, Spot, in_fields}
use Rattle.leaf_search.specs.declared.leaves.Seen.{Seen}
use Rattle.leaf_search.specs.declared.leaves.Seen.TheVariants.{Left, Found}

-- ---- offsets change nothing

abbrev SamePast : Forest → Forest → Type 0
SamePast f g = (offset : ℕ) (seen : Seen) → past f offset seen ≡ past g offset seen

pub past-placed : (k : ℕ) (f : Forest) (offset : ℕ) (seen : Seen) → past (placed k f) offset seen ≡ past f offset seen
unfolding past placed at_offset member_width when◌then◌else◌
past-placed k none offset seen = refl
past-placed k (node t below after) offset seen = go (is_kind kind_of_key t.kind) refl (past-placed k after) (past-placed (k + t.extent) after) (past-placed k below)
  where
    go : (b : Bool) → is_kind kind_of_key t.kind ≡ b → SamePast (placed k after) after → SamePast (placed (k + t.extent) after) after → SamePast (placed k below) below
        → past (when b then node t below (placed k after) else node (at_offset k t) (placed k below) (placed (k + t.extent) after)) offset seen ≡ past (node t below after) offset seen
    go true e p q r = p _ _
    go false e p q r = q _ _ ∙ ap (λ (s : Seen). past after (offset + member_width t) (when is_kind kind_of_leaf t.kind then passed seen offset t.extent else s)) (r offset seen)

abbrev SameFields : Forest → Forest → Type 0
SameFields f g = (offset : ℕ) (seen : Seen) (field span : ℕ) → in_fields f offset seen field span ≡ in_fields g offset seen field span

pub fields_placed : (k : ℕ) (f : Forest) (offset : ℕ) (seen : Seen) (field span : ℕ) → in_fields (placed k f) offset seen field span ≡ in_fields f offset seen field span
unfolding in_fields past placed at_offset member_width when◌then◌else◌
fields_placed k none offset seen field span = refl
fields_placed k (node t below after) offset seen field span = go (is_kind kind_of_key t.kind) refl (fields_placed k after) (fields_placed (k + t.extent) after) (past-placed k below)
  where
    go : (b : Bool) → is_kind kind_of_key t.kind ≡ b → SameFields (placed k after) after → SameFields (placed (k + t.extent) after) after → SamePast (placed k below) below
        → in_fields (when b then node t below (placed k after) else node (at_offset k t) (placed k below) (placed (k + t.extent) after)) offset seen field span ≡ in_fields (node t below after) offset seen field span
    go true e p q r = p _ _ _ _
    go false e p q r = q _ _ _ _ ∙ ap (λ (s : Seen). in_fields after (offset + member_width t) (when is_kind kind_of_leaf t.kind then passed seen offset t.extent else s) (latest seen offset field) (latest seen (member_width t) span)) (r offset seen)

-- ---- the leaves in schema order

-- past leaves, one after another
past_leaves : List (Slot ℕ) → Seen → Seen
past_leaves [] seen = seen
past_leaves (s ∷ l) seen = past_leaves l (passed seen s.offset s.wide)

past_both : (l r : List (Slot ℕ)) (seen : Seen) → past_leaves (l ++ r) seen ≡ past_leaves r (past_leaves l seen)
unfolding past_leaves
past_both [] r seen = refl
past_both (s ∷ l) r seen = past_both l r (passed seen s.offset s.wide)

past_found : (l : List (Slot ℕ)) (offset wide : ℕ) → past_leaves l (Found offset wide) ≡ Found offset wide
unfolding past_leaves
past_found [] offset wide = refl
past_found (s ∷ l) offset wide = past_found l offset wide

past-leaves : (n : ℕ) (f : Forest) (offset : ℕ) (seen : Seen) → past f offset seen ≡ past_leaves (leaves n f 0 offset) seen
unfolding past leaves past_leaves when◌then◌else◌
past-leaves n none offset seen = refl
past-leaves n (node t below after) offset seen =
    rw (past_both, past-leaves (suc n + size below) after (offset + member_width t))
    (ap (past_leaves (leaves (suc n + size below) after 0 (offset + member_width t))) (go (is_kind kind_of_leaf t.kind) (past-leaves (suc n) below offset seen)))
  where
    go : (b : Bool) → past below offset seen ≡ past_leaves (leaves (suc n) below 0 offset) seen
        → (when b then passed seen offset t.extent else past below offset seen)
        ≡ past_leaves (when b then record { leaf_row = n; element = 0; mark = t.mark; offset = offset; wide = t.extent } ∷ [] else leaves (suc n) below 0 offset) seen
    go true e = refl
    go false e = e

-- the i-th of them, or so many to be passed after them; and its row in the whole list
data Sought (l : List (Slot ℕ)) (i : ℕ) : Seen → Type 0 where
  hit : (s : Slot ℕ) → Memᴰ s l → ((r : List (Slot ℕ)) → pick (map (λ (x : Slot ℕ). x.leaf_row) (l ++ r)) i ≡ done s.leaf_row) → Sought l i (Found s.offset s.wide)
  miss : (k : ℕ) → ((r : List (Slot ℕ)) → pick (map (λ (x : Slot ℕ). x.leaf_row) (l ++ r)) i ≡ pick (map (λ (x : Slot ℕ). x.leaf_row) r) k) → Sought l i (Left k)

sought : (l : List (Slot ℕ)) (i : ℕ) → Sought l i (past_leaves l (Left i))
unfolding past_leaves pick
sought [] i = miss i (λ r. refl)
sought (s ∷ l) zero = rw (past_found l s.offset s.wide) (hit s (Memᴰ.head refl) (λ r. refl))
sought (s ∷ l) (suc i) = go (sought l i)
  where
    go : {seen : Seen} → Sought l i seen → Sought (s ∷ l) (suc i) seen
    go (hit x m h) = hit x (Memᴰ.tail m) h
    go (miss k h) = miss k h

-- ---- the leaf that stands there, in its field

-- what a row and a spot are, together: those of a leaf in its field, or both not there
pub data Picked (n : ℕ) (f : Forest) : Outcome ℕ → Outcome Spot → Type 0 where
  there : {row leaf_row : ℕ} {u l : Token} → Field n f row u leaf_row l → l.kind ≡ kind_of_leaf
      → Picked n f (done leaf_row) (done (record { offset = l.payload; wide = l.extent; field = u.payload; span = u.extent }))
  missing : Picked n f (fault not_there 0) (fault not_there 0)

fields_found : (f : Forest) (offset o w field span : ℕ) → in_fields f offset (Found o w) field span ≡ done (record { offset = o; wide = w; field = field; span = span })
unfolding in_fields
fields_found none offset o w field span = refl
fields_found (node t below after) offset o w field span =
    let e : past (node t below none) offset (Found o w) ≡ Found o w = past-leaves 0 (node t below none) offset (Found o w) ∙ past_found _ o w in
    rw e (fields_found after (offset + member_width t) o w field span)

leaves_split : (n offset : ℕ) (t : Token) (below after : Forest) → leaves {A = ℕ} n (node t below after) 0 offset ≡ leaves n (node t below none) 0 offset ++ leaves (suc n + size below) after 0 (offset + member_width t)
unfolding leaves
leaves_split n offset t below after = rw append-nil

same_spot : {o o' w w' f f' s s' : ℕ} → o ≡ o' → w ≡ w' → f ≡ f' → s ≡ s'
    → ◌≡◌ {A = Spot} (record { offset = o; wide = w; field = f; span = s }) (record { offset = o'; wide = w'; field = f'; span = s' })
same_spot a b c d = cc

pub picked : (n offset : ℕ) (f : Forest) → Placed offset f → (i field span : ℕ)
    → Picked n f (pick (map (λ (x : Slot ℕ). x.leaf_row) (leaves n f 0 offset)) i) (in_fields f offset (Left i) field span)
unfolding in_fields leaves pick
picked n offset none p i field span = missing
picked n offset (node t below after) p i field span =
    rw (leaves_split n offset t below after, past-leaves n (node t below none) offset (Left i)) (go (picked (suc n + size below) (offset + member_width t) after (rest p)) (sought (leaves n (node t below none) 0 offset) i))
  where
    later : {a : Outcome ℕ} {b : Outcome Spot} → Picked (suc n + size below) after a b → Picked n (node t below after) a b
    later (there x k) = there (next x) k
    later missing = missing

    go : {seen : Seen}
        → ((k field span : ℕ) → Picked (suc n + size below) after (pick (map (λ (x : Slot ℕ). x.leaf_row) (leaves (suc n + size below) after 0 (offset + member_width t))) k) (in_fields after (offset + member_width t) (Left k) field span))
        → Sought (leaves n (node t below none) 0 offset) i seen
        → Picked n (node t below after) (pick (map (λ (x : Slot ℕ). x.leaf_row) (leaves n (node t below none) 0 offset ++ leaves (suc n + size below) after 0 (offset + member_width t))) i)
        (in_fields after (offset + member_width t) seen offset (member_width t))
    go others (hit s m h) =
        let x = of_leaves 0 n offset (alone p) m in
        let y = holds_leaf (alone p) x.found x.is_leaf in
        let o : s.offset ≡ x.token.payload = let q = x.place_is in omega arith in
        let w : s.wide ≡ x.token.extent = ap (λ (z : Slot ℕ). z.wide) x.slot_is in
        rw (h, fields_found, same_spot o w (sym y.0) y.1) (there (own x.found) x.is_leaf)
    go others (miss k h) = rw h (later (others k offset (member_width t)))
