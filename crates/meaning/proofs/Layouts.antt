-- Schemas that are the same: as wide, cut into the same slots, placed and written alike. Assumes nothing.
use Prim.Native.Nat.{ℕ, suc, ◌+◌, ◌*◌}
use mathlib.Core.Path.{◌≡◌, refl, sym, ap, subst, ◌∙◌}
use mathlib.Core.Bool.{Bool, true, false, false≢true}
use mathlib.Core.List.{List, [], ◌∷◌, ◌++◌, append-nil}
use native.Mathlib.Omega.{arith}
use lib.ListN.{length}
use Rattle.format.specs.Conditions.{when◌then◌else◌, among}
use Rattle.format.specs.Marks.{Opening, bracket, brace, width}
use Rattle.format.specs.Tokens.{Kind, kind_number, key as kind_of_key, leaf as kind_of_leaf, schema_record, fixed_array, Token, is_kind, Forest, none, node, ◌⊕◌, below_first}
use Rattle.format.specs.Records.{member_width, total_width, at_offset, placed}
use Rattle.format.specs.Storage.{Slot, end_to_end, elements, leaves, by_rows, by_columns, records}
use Rattle.format.specs.HouseForm.{Written, whole, token, written, house}
use Rattle.format.specs.SameMeaning.{free, has_bytes}
use Rattle.laws.proofs.Order.{group_kind_lem}
use Rattle.laws.proofs.Schemas.{group_kind, Members, no_more, key, leaf, group, Group, grouped}
use Rattle.meaning.specs.Standing.{Stands, AllStand, no_token, next_token}
use Rattle.meaning.proofs.Same.{Counts, Alike, Same, nothing, one}

-- ---- the tokens of schemas

-- their kinds
pub data InSchema : Kind → Type 0 where
  a_key : InSchema kind_of_key
  a_leaf : InSchema kind_of_leaf
  a_record : InSchema schema_record
  an_array : InSchema fixed_array

-- tokens of such kinds
pub data Schematic : Forest → Type 0 where
  empty : Schematic none
  some : {t : Token} {below after : Forest} → InSchema t.kind → Schematic below → Schematic after → Schematic (node t below after)

group_in_schema : (o : Opening) → InSchema (group_kind o)
group_in_schema bracket = an_array
group_in_schema brace = a_record

pub members_schematic : {k due : Bool} {f : Forest} → Members k due f → Schematic f
members_schematic no_more = empty
members_schematic (key {t = t} i r) = let k : InSchema t.kind = rw i.kind_is a_key in some k empty (members_schematic r)
members_schematic (leaf {t = t} i r) = let k : InSchema t.kind = rw i.kind_is a_leaf in some k empty (members_schematic r)
members_schematic (group o {t = t} i e u r) =
    let k : InSchema t.kind = rw i.kind_is (group_in_schema o) in
    some k (members_schematic u) (members_schematic r)

-- their marks and widths count
mark_counts : {kind : Kind} → InSchema kind → Counts kind 1
unfolding free among when◌then◌else◌
mark_counts a_key = refl
mark_counts a_leaf = refl
mark_counts a_record = refl
mark_counts an_array = refl

width_counts : {kind : Kind} → InSchema kind → Counts kind 4
unfolding free among when◌then◌else◌
width_counts a_key = refl
width_counts a_leaf = refl
width_counts a_record = refl
width_counts an_array = refl

-- and no bytes do, but a key's
no_bytes : {kind : Kind} → InSchema kind → is_kind kind_of_key kind ≡ false → has_bytes (kind_number kind) ≡ false
unfolding has_bytes among is_kind
no_bytes a_key e = absurd (false≢true (sym e))
no_bytes a_leaf e = refl
no_bytes a_record e = refl
no_bytes an_array e = refl

-- ---- slots that are cut alike

-- two slots have the same mark, place and width
pub record AlikeSlot (s t : Slot ℕ) : Type 0 where
  pub marks : t.mark ≡ s.mark
  pub offsets : t.offset ≡ s.offset
  pub widths : t.wide ≡ s.wide

pub data SameCut : List (Slot ℕ) → List (Slot ℕ) → Type 0 where
  no_slot : SameCut [] []
  slot : {s t : Slot ℕ} {ss ts : List (Slot ℕ)} → AlikeSlot s t → SameCut ss ts → SameCut (s ∷ ss) (t ∷ ts)

cut_append : {ss ss' ts ts' : List (Slot ℕ)} → SameCut ss ss' → SameCut ts ts' → SameCut (ss ++ ts) (ss' ++ ts')
cut_append no_slot q = q
cut_append (slot a p) q = slot a (cut_append p q)

cut_if : {ss ss' ts ts' : List (Slot ℕ)} (b : Bool) → SameCut ss ss' → SameCut ts ts' → SameCut (when b then ss else ts) (when b then ss' else ts')
unfolding when◌then◌else◌
cut_if true p q = p
cut_if false p q = q

end_to_end-cut : (l : List ℕ) (w : ℕ) (cut cut' : ℕ → ℕ → List (Slot ℕ)) → ((a at : ℕ) → SameCut (cut a at) (cut' a at)) → (at : ℕ)
    → SameCut (end_to_end l w cut at) (end_to_end l w cut' at)
unfolding end_to_end
end_to_end-cut [] w cut cut' c at = no_slot
end_to_end-cut (a ∷ l) w cut cut' c at = cut_append (c a at) (end_to_end-cut l w cut cut' c (at + w))

pub elements_cut : (row row' mark : ℕ) (l : List ℕ) → SameCut (elements row mark l) (elements row' mark l)
unfolding elements
elements_cut row row' mark l =
    end_to_end-cut l (width mark) _ _ (λ a at. slot (record { marks = refl; offsets = refl; widths = refl }) no_slot) 0

module _ (m h : List ℕ) where
  pub schematic_same : {f g : Forest} → Schematic f → Same m h f g → Schematic g
  schematic_same empty nothing = empty
  schematic_same (some {t = t} k s r) (one {u = u} a p q) =
      let l : InSchema u.kind = rw a.kinds k in
      some l (schematic_same s p) (schematic_same r q)

  -- ---- as wide

  member_same : (t u : Token) → InSchema t.kind → Alike m h t.kind t u → member_width u ≡ member_width t
  unfolding member_width
  member_same t u k a = rw (a.kinds, a.extents (width_counts k))

  pub same_width : {f g : Forest} → Schematic f → Same m h f g → total_width g ≡ total_width f
  unfolding total_width
  same_width empty nothing = refl
  same_width (some k s r) (one {t = t} {u = u} a p q) = let x = member_same t u k a in let y = same_width r q in omega arith

  -- ---- cut into the same slots

  leaves_cut : {f g : Forest} → Schematic f → Same m h f g → (n n' a at : ℕ) → SameCut (leaves n f a at) (leaves n' g a at)
  unfolding leaves
  leaves_cut empty nothing n n' a at = no_slot
  leaves_cut (some {t = t} k s r) (one {u = u} b p q) n n' a at =
      rw (member_same t u k b, b.kinds)
      (cut_append (cut_if (is_kind kind_of_leaf t.kind) (slot (record { marks = b.marks (mark_counts k); offsets = refl; widths = b.extents (width_counts k) }) no_slot)
      (leaves_cut s p (suc n) (suc n') a at)) (leaves_cut r q _ _ a (at + member_width t)))

  columns_cut : {f g : Forest} → Schematic f → Same m h f g → (n n' : ℕ) (l : List ℕ) (at : ℕ) → SameCut (by_columns n f l at) (by_columns n' g l at)
  unfolding by_columns
  columns_cut empty nothing n n' l at = no_slot
  columns_cut (some {t = t} k s r) (one {u = u} b p q) n n' l at =
      rw (member_same t u k b)
      (cut_append (end_to_end-cut l (member_width t) _ _ (leaves_cut (some k s empty) (one b p nothing) n n') at)
      (columns_cut r q _ _ l (at + length l * member_width t)))

  pub records_cut : (o : Opening) {f g : Forest} → Schematic f → Same m h f g → (n n' : ℕ) (l : List ℕ) → SameCut (records o n f l) (records o n' g l)
  unfolding records by_rows
  records_cut bracket {f} s e n n' l = rw (same_width s e) (end_to_end-cut l (total_width f) _ _ (leaves_cut s e n n') 0)
  records_cut brace s e n n' l = columns_cut s e n n' l 0

  pub schematic_below : {f : Forest} → Schematic f → Schematic (below_first f)
  unfolding below_first
  schematic_below empty = empty
  schematic_below (some k s r) = s

  pub same_below : {f g : Forest} → Same m h f g → Same m h (below_first f) (below_first g)
  unfolding below_first
  same_below nothing = nothing
  same_below (one a p q) = p

  -- ---- placed alike

  placed_alike : (t u : Token) (at : ℕ) → InSchema t.kind → is_kind kind_of_key t.kind ≡ false → Alike m h t.kind t u
      → Alike m h t.kind (at_offset at t) (at_offset at u)
  unfolding at_offset
  placed_alike t u at k e a = record {
    kinds = a.kinds;
    marks = a.marks;
    payloads = λ _. refl;
    extents = a.extents;
    counted = a.counted;
    orders = a.orders;
    contents = λ c. absurd (false≢true (sym (no_bytes k e) ∙ c));
    ids = a.ids;
  }

  -- a token, placed where it is no key
  node_placed : (t u : Token) (at : ℕ) {b b' c c' pb pb' pc pc' : Forest} → InSchema t.kind → Alike m h t.kind t u
      → Same m h b b' → Same m h c c' → Same m h pb pb' → Same m h pc pc' → (x : Bool) → is_kind kind_of_key t.kind ≡ x → is_kind kind_of_key u.kind ≡ x
      → Same m h (when is_kind kind_of_key t.kind then node t b c else node (at_offset at t) pb pc) (when is_kind kind_of_key u.kind then node u b' c' else node (at_offset at u) pb' pc')
  unfolding when◌then◌else◌ at_offset
  node_placed t u at k a p q v w true e e' = rw (e, e') (one a p q)
  node_placed t u at k a p q v w false e e' = rw (e, e') (one (placed_alike t u at k e a) v w)

  pub same_placed : {f g : Forest} → Schematic f → Same m h f g → (at : ℕ) → Same m h (placed at f) (placed at g)
  unfolding placed
  same_placed empty nothing at = nothing
  same_placed (some {t = t} {after = c} k s r) (one {u = u} {after' = c'} a p q) at =
      node_placed t u at k a p (same_placed r q at) (same_placed s p at)
      (subst (λ w. Same m h (placed (at + t.extent) c) (placed (at + w) c')) (sym (a.extents (width_counts k))) (same_placed r q (at + t.extent)))
      (is_kind kind_of_key t.kind) refl (ap (is_kind kind_of_key) a.kinds)

-- ---- written alike

module _ (m : List ℕ) where
  token_placed : {kind : Kind} (t : Token) (at : ℕ) (under : Written) → InSchema kind → is_kind kind_of_key kind ≡ false → token m kind (at_offset at t) under ≡ token m kind t under
  unfolding token is_kind at_offset
  token_placed t at under a_key e = absurd (false≢true (sym e))
  token_placed t at under a_leaf e = refl
  token_placed t at under a_record e = refl
  token_placed t at under an_array e = refl

  written-placed : {f : Forest} → Schematic f → (at : ℕ) → written m (placed at f) ≡ written m f
  unfolding written placed at_offset when◌then◌else◌
  written-placed empty at = refl
  written-placed (some {t = t} {below = b} {after = c} k s r) at =
      go (is_kind kind_of_key t.kind) refl (written-placed s at) (written-placed r at) (written-placed r (at + t.extent))
    where
      go : (x : Bool) → is_kind kind_of_key t.kind ≡ x → written m (placed at b) ≡ written m b → written m (placed at c) ≡ written m c
          → written m (placed (at + t.extent) c) ≡ written m c
          → written m (when x then node t b (placed at c) else node (at_offset at t) (placed at b) (placed (at + t.extent) c)) ≡ written m (node t b c)
      go true e v w z = λ i. record { first = token m t.kind t (written m b); rest = whole (w i) }
      go false e v w z = λ i. record { first = (ap (token m t.kind (at_offset at t)) v ∙ token_placed t at (written m b) k e) i; rest = whole (z i) }

  -- a table's schema is the first token below it
  pub schema_written : {o : Opening} {s : Forest} (dims : Forest) → Group o s → written m (placed 0 s ⊕ dims) ≡ record { first = house m s; rest = house m dims }
  unfolding placed ◌⊕◌ written house whole when◌then◌else◌ at_offset
  schema_written {o} dims (grouped {t = t} {below = b} i e u) =
      let k : InSchema t.kind = rw i.kind_is (group_in_schema o) in
      let n : is_kind kind_of_key t.kind ≡ false = rw i.kind_is (group_kind_lem o).not_key in
      let x : token m t.kind (at_offset 0 t) (written m (placed 0 b)) ≡ token m t.kind t (written m b) ++ [] =
      ap (token m t.kind (at_offset 0 t)) (written-placed (members_schematic u) 0) ∙ token_placed t 0 (written m b) k n ∙ sym (append-nil _) in
      rw n (λ j. record { first = x j; rest = whole (written m dims) })

  -- ---- standing alike

  stands_placed : (t : Token) (at : ℕ) {below : Forest} → InSchema t.kind → Schematic below → is_kind kind_of_key t.kind ≡ false → Stands m t below
      → Stands m (at_offset at t) (placed at below)
  unfolding at_offset
  stands_placed t at k s e p = record {
    rest = p.rest;
    stands = p.stands ∙ ap (λ x. x ++ p.rest) (sym (ap (token m t.kind (at_offset at t)) (written-placed s at) ∙ token_placed t at _ k e));
  }

  pub all_placed : {f : Forest} → Schematic f → AllStand m f → (at : ℕ) → AllStand m (placed at f)
  unfolding placed when◌then◌else◌ at_offset
  all_placed empty no_token at = no_token
  all_placed (some {t = t} {below = b} {after = c} k s r) (next_token p q v) at =
      go (is_kind kind_of_key t.kind) refl (all_placed s q at) (all_placed r v at) (all_placed r v (at + t.extent))
    where
      go : (x : Bool) → is_kind kind_of_key t.kind ≡ x → AllStand m (placed at b) → AllStand m (placed at c) → AllStand m (placed (at + t.extent) c)
          → AllStand m (when x then node t b (placed at c) else node (at_offset at t) (placed at b) (placed (at + t.extent) c))
      go true e u w z = next_token p q w
      go false e u w z = next_token (stands_placed t at k s e p) u z
