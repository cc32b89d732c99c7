-- Tokens of two messages that have the same meaning: so have their rows, and they are written alike. Assumes nothing.
use Prim.Native.Nat.{ℕ, suc, ◌+◌}
use mathlib.Core.Path.{◌≡◌, refl, sym, ap, ap₂, ◌∙◌}
use mathlib.Core.Bool.{Bool, true, false, false≢true}
use mathlib.Core.List.{List, [], ◌∷◌, ◌++◌, map, map-append}
use native.Mathlib.Omega.{arith}
use Rattle.format.specs.Conditions.{when◌then◌else◌, among}
use Rattle.format.specs.Tokens.{Kind, kind_number, scalar, text, high_precision, key, array, object, packed, table, leaf, schema_record, fixed_array, dimension, extension, Token, Forest, none, node, size, ◌⊕◌, members, counts}
use Rattle.format.specs.Rows.{Ancestry, held_by, layout, row_of, rows}
use Rattle.format.specs.Extensions.{id_bytes}
use Rattle.format.specs.HouseForm.{Written, whole, payload_of, token, written, house}
use Rattle.format.specs.SameMeaning.{free, kept, has_bytes, has_id, row_meaning, SameMeaning}

-- word k of a row of this kind counts
abbrev pub Counts : Kind → ℕ → Type 0
Counts kind k = among (free (kind_number kind)) k ≡ false

-- a token of this kind of the message m and one of the message h, equal as far as same meaning goes
pub record Alike (m h : List ℕ) (kind : Kind) (t u : Token) : Type 0 where
  pub kinds : u.kind ≡ kind
  pub marks : Counts kind 1 → u.mark ≡ t.mark
  pub payloads : Counts kind 3 → u.payload ≡ t.payload
  pub extents : Counts kind 4 → u.extent ≡ t.extent
  pub counted : u.count ≡ t.count
  pub orders : u.order ≡ t.order
  pub contents : has_bytes (kind_number kind) ≡ true → payload_of h u ≡ payload_of m t
  pub ids : has_id (kind_number kind) ≡ true → id_bytes h u.first ≡ id_bytes m t.first

-- tokens that are alike, one by one
pub data Same (m h : List ℕ) : Forest → Forest → Type 0 where
  nothing : Same m h none none
  one : {t u : Token} {below below' after after' : Forest} → Alike m h t.kind t u → Same m h below below' → Same m h after after'
      → Same m h (node t below after) (node u below' after')

-- ---- rows

-- the first byte may always differ
first_free : (kind : Kind) → among (free (kind_number kind)) 2 ≡ true
unfolding free among when◌then◌else◌
first_free scalar = refl
first_free text = refl
first_free high_precision = refl
first_free key = refl
first_free array = refl
first_free object = refl
first_free packed = refl
first_free table = refl
first_free leaf = refl
first_free schema_record = refl
first_free fixed_array = refl
first_free dimension = refl
first_free extension = refl

-- a word that may differ, or is the same
word_kept : (b : Bool) (v w : ℕ) → (b ≡ false → w ≡ v) → (when b then 0 else v) ≡ (when b then 0 else w)
unfolding when◌then◌else◌
word_kept true v w e = refl
word_kept false v w e = sym (e refl)

bytes_kept : (b : Bool) (x y : List ℕ) → (b ≡ true → y ≡ x) → (when b then x else []) ≡ (when b then y else [])
unfolding when◌then◌else◌
bytes_kept true x y e = sym (e refl)
bytes_kept false x y e = refl

module _ (m h : List ℕ) where
  alike_row : (t u : Token) (link : ℕ) (ancestry : Ancestry) → Alike m h t.kind t u → row_meaning m (row_of t link ancestry) ≡ row_meaning h (row_of u link ancestry)
  unfolding row_meaning row_of layout kept payload_of
  alike_row t u link ancestry a =
      let kind : ℕ = kind_number t.kind in
      let may : ℕ → Bool = among (free kind) in
      let first-may : may 2 ≡ false → u.first ≡ t.first = λ e. absurd (false≢true (sym e ∙ first_free t.kind)) in
      rw a.kinds (λ i. (
        word_kept (may 0) kind kind (λ _. refl) i
            ∷ word_kept (may 1) t.mark u.mark a.marks i
            ∷ word_kept (may 2) t.first u.first first-may i
            ∷ word_kept (may 3) t.payload u.payload a.payloads i
            ∷ word_kept (may 4) t.extent u.extent a.extents i
            ∷ word_kept (may 5) t.count u.count (λ _. a.counted) i
            ∷ word_kept (may 6) link link (λ _. refl) i
            ∷ word_kept (may 7) t.order u.order (λ _. a.orders) i
            ∷ word_kept (may 8) ancestry.parent ancestry.parent (λ _. refl) i
            ∷ word_kept (may 9) ancestry.depth ancestry.depth (λ _. refl) i
            ∷ [],
        bytes_kept (has_bytes kind) (payload_of m t) (payload_of h u) a.contents i,
        bytes_kept (has_id kind) (id_bytes m t.first) (id_bytes h u.first) a.ids i,
      ))

  pub same_size : {f g : Forest} → Same m h f g → size g ≡ size f
  unfolding size
  same_size nothing = refl
  same_size (one a u r) = let x = same_size u in let y = same_size r in omega arith

  -- the rows of such tokens have the same meaning
  pub same_rows : {f g : Forest} (n : ℕ) (ancestry : Ancestry) → Same m h f g → SameMeaning m (rows n ancestry f) h (rows n ancestry g)
  unfolding rows
  same_rows n ancestry nothing = refl
  same_rows n ancestry (one {t = t} {u = u} {below = b} {below' = b'} {after = a} {after' = a'} k s r) =
      let e : map (row_meaning m) (rows (suc n) (held_by n ancestry) b ++ rows (suc n + size b) ancestry a) ≡ map (row_meaning h) (rows (suc n) (held_by n ancestry) b' ++ rows (suc n + size b) ancestry a') =
      map-append (row_meaning m) (rows (suc n) (held_by n ancestry) b) _ ∙ ap₂ ◌++◌ (same_rows (suc n) (held_by n ancestry) s) (same_rows (suc n + size b) ancestry r) ∙ sym (map-append (row_meaning h) (rows (suc n) (held_by n ancestry) b') _) in
      rw (same_size s) (λ i. alike_row t u (suc n + size b) ancestry k i ∷ e i)

  -- ---- what is counted of them

  pub same_members : {f g : Forest} → Same m h f g → members g ≡ members f
  unfolding members
  same_members nothing = refl
  same_members (one a u r) = rw (a.kinds, same_members r)

  pub same_counts : {f g : Forest} → Same m h f g → counts g ≡ counts f
  unfolding counts
  same_counts nothing = refl
  same_counts (one a u r) = rw (a.counted, same_counts r)

  pub same_append : {f f' g g' : Forest} → Same m h f f' → Same m h g g' → Same m h (f ⊕ g) (f' ⊕ g')
  unfolding ◌⊕◌
  same_append nothing s = s
  same_append (one a u r) s = one a u (same_append r s)

  -- ---- how they are written

  token_same : (kind : Kind) (t u : Token) (under : Written) → Alike m h kind t u → token h kind u under ≡ token m kind t under
  unfolding token free has_bytes among when◌then◌else◌
  token_same scalar t u under a = rw (a.contents refl, a.marks refl)
  token_same text t u under a = rw (a.contents refl, a.marks refl, a.extents refl)
  token_same high_precision t u under a = rw (a.contents refl, a.marks refl, a.extents refl)
  token_same key t u under a = rw (a.contents refl, a.extents refl)
  token_same array t u under a = rw a.counted
  token_same object t u under a = rw a.counted
  token_same packed t u under a = rw (a.contents refl, a.marks refl, a.orders, a.counted)
  token_same table t u under a = rw (a.contents refl, a.marks refl, a.orders, a.counted)
  token_same leaf t u under a = rw (a.marks refl, a.extents refl)
  token_same schema_record t u under a = refl
  token_same fixed_array t u under a = refl
  token_same dimension t u under a = rw a.counted
  token_same extension t u under a = rw (a.contents refl, a.marks refl, a.extents refl, a.ids refl)

  -- tokens that are alike are written alike
  pub same_written : {f g : Forest} → Same m h f g → written h g ≡ written m f
  unfolding written
  same_written nothing = refl
  same_written (one {t = t} {u = u} {below = b} {below' = b'} {after = c} {after' = c'} a s r) =
      let p : token h u.kind u (written h b') ≡ token m t.kind t (written m b) =
      ap (λ k. token h k u (written h b')) a.kinds ∙ ap (token h t.kind u) (same_written s) ∙ token_same t.kind t u (written m b) a in
      let q : whole (written h c') ≡ whole (written m c) = ap whole (same_written r) in
      λ i. record { first = p i; rest = q i }

  pub same_house : {f g : Forest} → Same m h f g → house h g ≡ house m f
  unfolding house
  same_house s = ap whole (same_written s)
