-- Offsets of tokens that stand side by side, and of the keys among them. Assumes nothing.
use Prim.Native.Nat.{ℕ, suc, ◌+◌, ◌≤◌, min}
use mathlib.Core.Path.{◌≡◌, refl, ap, ◌∙◌}
use mathlib.Core.Bool.{Bool, true, false}
use mathlib.Core.List.{List, append-nil}
use native.Mathlib.Omega.{arith}
use native.Mathlib.Nat.{add-zero}
use lib.Dec.{leb}
use borrow.Author.Tests.{leb-true, leb-false, le-leb, lt-leb}
use Rattle.format.specs.Outcome.{Parsed, done}
use Rattle.format.specs.Limits.{record_limit}
use Rattle.format.specs.Conditions.{when◌then◌else◌}
use Rattle.format.specs.Marks.{Opening, opens}
use Rattle.format.specs.Tokens.{Kind, key, leaf as kind_of_leaf, uncounted, Forest, none, node, size, ◌⊕◌, is_kind, members}
use Rattle.format.specs.Records.{member_width, total_width, at_offset, placed}
use Rattle.format.specs.Schemas.{leaf, group}
use Rattle.format.specs.Rows.{Ancestry, held_by, row_of, rows}
use Rattle.rows.specs.Row.{store}
use Rattle.rows.specs.Overlay.{lay}
use Rattle.rows.proofs.Overlay.{lay_front}
use Rattle.laws.proofs.Order.{size-placed}
use Rattle.tokens.proofs.Sofar.{lay_forest}
use Rattle.kinds.specs.Answers.{over, group_at, Read}

-- ---- one forest and then another

pub placed_append : (n : ℕ) (f g : Forest) → placed n (f ⊕ g) ≡ placed n f ⊕ placed (n + total_width f) g
unfolding placed total_width member_width ◌⊕◌ when◌then◌else◌
placed_append n none g = rw add-zero
placed_append n (node t below after) g = go (is_kind key t.kind) (placed_append n after g) (placed_append (n + t.extent) after g)
  where
    go : (b : Bool) → placed n (after ⊕ g) ≡ placed n after ⊕ placed (n + total_width after) g
        → placed (n + t.extent) (after ⊕ g) ≡ placed (n + t.extent) after ⊕ placed (n + t.extent + total_width after) g
        → (when b then node t below (placed n (after ⊕ g)) else node (at_offset n t) (placed n below) (placed (n + t.extent) (after ⊕ g)))
        ≡ (when b then node t below (placed n after) else node (at_offset n t) (placed n below) (placed (n + t.extent) after)) ⊕ placed (n + ((when b then 0 else t.extent) + total_width after)) g
    go true e f = let z : 0 + total_width after ≡ total_width after = omega arith in rw (e, z)
    go false e f = let z : n + (t.extent + total_width after) ≡ n + t.extent + total_width after = omega arith in rw (f, z)

-- offsets change no member
pub members-placed : (n : ℕ) (f : Forest) → members (placed n f) ≡ members f
unfolding placed members at_offset when◌then◌else◌
members-placed n none = refl
members-placed n (node t below after) = go (is_kind key t.kind) refl (members-placed n after) (members-placed (n + t.extent) after)
  where
    go : (b : Bool) → is_kind key t.kind ≡ b → members (placed n after) ≡ members after → members (placed (n + t.extent) after) ≡ members after
        → members (when b then node t below (placed n after) else node (at_offset n t) (placed n below) (placed (n + t.extent) after)) ≡ (when b then 0 else 1) + members after
    go true k e f = rw (k, e)
    go false k e f = rw (k, f)

-- the rows of one forest and then those of another, each with its offset
pub lay-placed : (ws : List ℕ) (row n : ℕ) (a : Ancestry) (f g : Forest)
    → lay (lay ws row (rows row a (placed n f))) (row + size f) (rows (row + size f) a (placed (n + total_width f) g)) ≡ lay ws row (rows row a (placed n (f ⊕ g)))
lay-placed ws row n a f g = rw (placed_append n f g, ← size-placed n f) (lay_forest ws row a (placed n f) (placed (n + total_width f) g))

-- ---- keys: they have no width, and no offset

key_step : (b : Bool) (n : ℕ) → (when b then 0 else 1) + n ≡ 0 → (b ≡ true) × (n ≡ 0)
unfolding when◌then◌else◌
key_step true n e = (refl, omega arith)
key_step false n e = absurd (omega arith)

pub keys_width : (f : Forest) → members f ≡ 0 → total_width f ≡ 0
unfolding members total_width member_width when◌then◌else◌
keys_width none e = refl
keys_width (node t below after) e =
    let s = key_step (is_kind key t.kind) (members after) e in
    rw s.0 (omega (arith, keys_width after s.1))

pub keys_placed : (n : ℕ) (f : Forest) → members f ≡ 0 → placed n f ≡ f
unfolding members placed when◌then◌else◌
keys_placed n none e = refl
keys_placed n (node t below after) e =
    let s = key_step (is_kind key t.kind) (members after) e in
    rw (s.0, keys_placed n after s.1)

-- ---- a record or a fixed array

module _ (kind : Kind) (o : Opening) (at : ℕ) (f : Forest) where
  pub group-size : size (group kind o at f) ≡ suc (size f)
  unfolding group size
  group-size = omega arith

  pub group-members : is_kind key kind ≡ false → members (group kind o at f) ≡ 1
  unfolding group members when◌then◌else◌
  group-members k = rw k

  pub group_width : is_kind key kind ≡ false → total_width (group kind o at f) ≡ total_width f
  unfolding group total_width member_width when◌then◌else◌
  group_width k = rw (k, add-zero)

-- its row, stored after those of its members
pub group_lies : (kind : Kind) (o : Opening) (at row offset link : ℕ) (a : Ancestry) (f : Forest) (ws : List ℕ) → is_kind key kind ≡ false → link ≡ suc row + size f
    → store (lay ws (row + 1) (rows (row + 1) (held_by row a) (placed offset f))) row
    (row_of (group_at kind (opens o) at offset (total_width f) (members f)) link a)
    ≡ lay ws row (rows row a (placed offset (group kind o at f)))
unfolding group placed at_offset when◌then◌else◌ rows
group_lies kind o at row offset link a f ws k e =
    let p : row + 1 ≡ suc row = omega arith in
    rw (k, e, p, ← size-placed offset f, append-nil (rows (suc row) (held_by row a) (placed offset f))) (lay_front ws row _ (rows (suc row) (held_by row a) (placed offset f)))

-- ---- a leaf

pub read_leaf : (mark at w next row offset offset' : ℕ) (ancestry : Ancestry) (before now : List ℕ) → offset' ≡ min (offset + w) over
    → now ≡ store before row (row_of (uncounted kind_of_leaf mark at offset w) (row + 1) ancestry)
    → Read (done (leaf mark at w, next)) row offset ancestry before now next (row + 1) offset'
unfolding leaf members total_width member_width placed at_offset is_kind when◌then◌else◌ size rows lay
read_leaf mark at w next row offset offset' ancestry before now e h =
    let q : suc row + 0 ≡ row + 1 = omega arith in
    record { forest = leaf mark at w; read = refl; counted = refl; took = omega arith; wide = e ∙ ap (λ n. min (offset + n) over) (omega arith); lie = λ _. rw q h }

-- ---- what the caller makes of a kind that was read

module _ {o : Parsed Forest} {row offset : ℕ} {ancestry : Ancestry} {before after : List ℕ} {next row' offset' : ℕ} (r : Read o row offset ancestry before after next row' offset') where
  -- its tokens with their offsets, as one reader that lays tokens would have laid them
  pub read_placed : offset' ≤ record_limit
      → (members (placed offset r.forest) ≡ 1) × (row' ≡ row + size (placed offset r.forest)) × (after ≡ lay before row (rows row ancestry (placed offset r.forest)))
  read_placed h = (members-placed offset r.forest ∙ r.counted, rw (size-placed offset r.forest) r.took, r.lie h)

  -- whether it passes a record's limit is told by the offset after it
  pub read_told : leb (offset + total_width r.forest) record_limit ≡ leb offset' record_limit
  read_told = go (leb offset' record_limit) refl
    where
      go : (b : Bool) → leb offset' record_limit ≡ b → leb (offset + total_width r.forest) record_limit ≡ b
      go true e = let h = leb-true offset' record_limit e in le-leb (offset + total_width r.forest) record_limit (omega (arith, r.wide))
      go false e = let h = leb-false offset' record_limit e in lt-leb (offset + total_width r.forest) record_limit (omega (arith, r.wide))
