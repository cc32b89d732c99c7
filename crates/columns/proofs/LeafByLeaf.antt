-- The least place of a wrong slot, leaf by leaf: by rows over the members, by columns over the top-level fields. Assumes nothing.
use Prim.Native.Nat.{ℕ, zero, suc, ◌+◌, ◌*◌, ◌≤◌, min}
use mathlib.Core.Path.{◌≡◌, refl, sym}
use mathlib.Core.Bool.{Bool, true, false}
use mathlib.Core.List.{List, [], ◌∷◌, ◌++◌}
use native.Mathlib.Omega.{arith}
use native.Mathlib.Nat.{mul-add}
use lib.ListN.{length}
use Rattle.format.specs.Conditions.{when◌then◌else◌}
use Rattle.format.specs.Marks.{bracket, brace}
use Rattle.format.specs.Tokens.{leaf as kind_of_leaf, is_kind, Forest, none, node, size, ◌⊕◌}
use Rattle.format.specs.Records.{member_width, total_width}
use Rattle.format.specs.Storage.{Slot, end_to_end, leaves, by_rows, by_columns, records}
use Rattle.columns.specs.Least.{nowhere, least, in_column, in_columns, in_fields}
use Rattle.columns.proofs.Tiles.{least_most}

shuffle : (a b c d : ℕ) → min (min a b) (min c d) ≡ min (min a c) (min b d)
shuffle a b c d = omega arith

absorb : (a b n : ℕ) → b ≤ n → min a b ≡ min (min a n) b
absorb a b n h = omega arith

module _ (m : List ℕ) where
  pub column_most : (mark w stride n place : ℕ) → in_column m mark w stride n place ≤ nowhere
  unfolding in_column
  column_most mark w stride zero place = omega arith
  column_most mark w stride (suc n) place = let y = column_most mark w stride n (place + stride) in omega arith

  pub columns_most : (stride n : ℕ) (f : Forest) (place : ℕ) → in_columns m stride n f place ≤ nowhere
  unfolding in_columns
  columns_most stride n none place = omega arith
  columns_most stride n (node t below after) place = let y = columns_most stride n after (place + member_width t) in omega arith

  pub fields_most : (n : ℕ) (f : Forest) (place : ℕ) → in_fields m n f place ≤ nowhere
  unfolding in_fields
  fields_most n none place = omega arith
  fields_most n (node t below after) place = let y = fields_most n after (place + n * member_width t) in omega arith

  -- ---- one forest and then another

  pub columns_append : (stride n : ℕ) (f g : Forest) (place : ℕ)
      → in_columns m stride n (f ⊕ g) place ≡ min (in_columns m stride n f place) (in_columns m stride n g (place + total_width f))
  unfolding in_columns ◌⊕◌ total_width
  columns_append stride n none g place = let k = columns_most stride n g place in let e : place + 0 ≡ place = omega arith in rw e (omega arith)
  columns_append stride n (node t below after) g place =
      let e : place + member_width t + total_width after ≡ place + (member_width t + total_width after) = omega arith in
      let q = rw e at (columns_append stride n after g (place + member_width t)) in rw q (omega arith)

  pub fields_append : (n : ℕ) (f g : Forest) (place : ℕ)
      → in_fields m n (f ⊕ g) place ≡ min (in_fields m n f place) (in_fields m n g (place + n * total_width f))
  unfolding in_fields ◌⊕◌ total_width
  fields_append n none g place = let k = fields_most n g place in let e : place + n * 0 ≡ place = omega arith in rw e (omega arith)
  fields_append n (node t below after) g place =
      let e : place + n * member_width t + n * total_width after ≡ place + n * (member_width t + total_width after) = omega (arith, mul-add n (member_width t) (total_width after)) in
      let q = rw e at (fields_append n after g (place + n * member_width t)) in rw q (omega arith)

  -- ---- slots

  least_append : (start : ℕ) (ss ts : List (Slot ℕ)) → least m start (ss ++ ts) ≡ min (least m start ss) (least m start ts)
  unfolding least
  least_append start [] ts = let k = least_most m start ts in omega arith
  least_append start (s ∷ ss) ts = let e = least_append start ss ts in omega arith

  -- no records
  columns_none : (stride : ℕ) (f : Forest) (place : ℕ) → in_columns m stride 0 f place ≡ nowhere
  unfolding in_columns in_column when◌then◌else◌
  columns_none stride none place = refl
  columns_none stride (node t below after) place = go (is_kind kind_of_leaf t.kind) (columns_none stride below place) (columns_none stride after (place + member_width t))
    where
      go : {x y : ℕ} (b : Bool) → x ≡ nowhere → y ≡ nowhere → min (when b then nowhere else x) y ≡ nowhere
      go true e f = omega arith
      go false e f = omega arith

  -- the first record, and the others
  module _ (start stride k a : ℕ) where
    columns_first : (f : Forest) (n at place : ℕ) → start + at ≡ place
        → in_columns m stride (suc k) f place ≡ min (least m start (leaves n f a at)) (in_columns m stride k f (place + stride))
    unfolding in_columns in_column leaves least when◌then◌else◌
    columns_first none n at place h = omega arith
    columns_first (node t below after) n at place h =
        let v : start + (at + member_width t) ≡ place + member_width t = omega arith in
        let s : place + member_width t + stride ≡ place + stride + member_width t = omega arith in
        let r = rw s at (columns_first after (suc n + size below) (at + member_width t) (place + member_width t) v) in
        rw (least_append, r) (go _ _ (is_kind kind_of_leaf t.kind) (columns_first below (suc n) at place h))
      where
        slot_of : Slot ℕ
        slot_of = record { leaf_row = n; element = a; mark = t.mark; offset = at; wide = t.extent }

        go : (x y : ℕ) (b : Bool)
            → in_columns m stride (suc k) below place ≡ min (least m start (leaves (suc n) below a at)) (in_columns m stride k below (place + stride))
            → min (when b then in_column m t.mark t.extent stride (suc k) place else in_columns m stride (suc k) below place) (min x y)
            ≡ min (min (least m start (when b then slot_of ∷ [] else leaves (suc n) below a at)) x)
            (min (when b then in_column m t.mark t.extent stride k (place + stride) else in_columns m stride k below (place + stride)) y)
        go x y true e = let q = column_most t.mark t.extent stride k (place + stride) in rw (h, absorb _ _ nowhere q) (shuffle _ _ x y)
        go x y false e = rw e (shuffle _ _ x y)

  -- records end to end
  least_columns : (start : ℕ) (l : List ℕ) (w n : ℕ) (f : Forest) (at : ℕ) → least m start (end_to_end l w (leaves n f) at) ≡ in_columns m w (length l) f (start + at)
  unfolding end_to_end least
  least_columns start [] w n f at = sym (columns_none w f (start + at))
  least_columns start (a ∷ l) w n f at =
      let e : start + (at + w) ≡ start + at + w = omega arith in
      let q = rw e at (least_columns start l w n f (at + w)) in
      rw (least_append, q) (sym (columns_first start w (length l) a f n at (start + at) refl))

  -- fields, one after another
  least_fields : (start : ℕ) (l : List ℕ) (n : ℕ) (f : Forest) (at : ℕ) → least m start (by_columns n f l at) ≡ in_fields m (length l) f (start + at)
  unfolding by_columns least in_fields
  least_fields start l n none at = refl
  least_fields start l n (node t below after) at =
      let e : start + (at + length l * member_width t) ≡ start + at + length l * member_width t = omega arith in
      let q = rw e at (least_fields start l (suc n + size below) after (at + length l * member_width t)) in
      rw (least_append, q, least_columns start l (member_width t) n (node t below none) at)

  -- a table
  pub least_rows : (start : ℕ) (l : List ℕ) (n : ℕ) (f : Forest) → least m start (records bracket n f l) ≡ in_columns m (total_width f) (length l) f start
  unfolding records by_rows
  least_rows start l n f = let e : start + 0 ≡ start = omega arith in rw e at (least_columns start l (total_width f) n f 0)

  pub least_by_columns : (start : ℕ) (l : List ℕ) (n : ℕ) (f : Forest) → least m start (records brace n f l) ≡ in_fields m (length l) f start
  unfolding records
  least_by_columns start l n f = let e : start + 0 ≡ start = omega arith in rw e at (least_fields start l n f 0)
