-- One forest and then another: what is counted, summed or laid out of both. Assumes nothing.
use Prim.Native.Nat.{ℕ, suc, ◌+◌}
use mathlib.Core.Path.{◌≡◌, refl, ap, ◌∙◌}
use mathlib.Core.Bool.{true}
use mathlib.Core.List.{◌++◌, append_assoc}
use native.Mathlib.Omega.{arith}
use native.Mathlib.Nat.{add-zero}
use lib.ListN.{length, length-append}
use borrow.Author.Tests.{eqb-true}
use Rattle.format.specs.Conditions.{when◌then◌else◌}
use Rattle.format.specs.Tokens.{Token, kind_number, leaf, is_kind, Forest, none, node, size, ◌⊕◌, members}
use Rattle.format.specs.Records.{member_width, total_width}
use Rattle.format.specs.Rows.{Ancestry, held_by, rows}

-- ---- one and then another

pub append_none : (f : Forest) → f ⊕ none ≡ f
unfolding ◌⊕◌
append_none none = refl
append_none (node t below after) = rw (append_none after)

pub ⊕-assoc : (f g h : Forest) → (f ⊕ g) ⊕ h ≡ f ⊕ (g ⊕ h)
unfolding ◌⊕◌
⊕-assoc none g h = refl
⊕-assoc (node t below after) g h = rw (⊕-assoc after g h)

-- ---- their tokens, members and widths

pub size_append : (f g : Forest) → size (f ⊕ g) ≡ size f + size g
unfolding size ◌⊕◌
size_append none g = omega arith
size_append (node t below after) g = let e = size_append after g in omega arith

pub members_append : (f g : Forest) → members (f ⊕ g) ≡ members f + members g
unfolding members ◌⊕◌
members_append none g = omega arith
members_append (node t below after) g = let e = members_append after g in omega arith

pub width_append : (f g : Forest) → total_width (f ⊕ g) ≡ total_width f + total_width g
unfolding total_width ◌⊕◌
width_append none g = omega arith
width_append (node t below after) g = let e = width_append after g in omega arith

-- a leaf is as wide as its payload
pub leaf_width : (t : Token) → is_kind leaf t.kind ≡ true → member_width t ≡ t.extent
unfolding member_width is_kind when◌then◌else◌
leaf_width t h = rw (← eqb-true (kind_number leaf) (kind_number t.kind) h)

-- ---- their rows

-- as many rows as tokens
pub length-rows : (n : ℕ) (a : Ancestry) (f : Forest) → length (rows n a f) ≡ size f
unfolding rows size
length-rows n a none = refl
length-rows n a (node t below after) =
    ap suc (length-append (rows (suc n) (held_by n a) below) _ ∙ simp (length-rows (suc n) (held_by n a) below, length-rows (suc n + size below) a after))

pub rows_append : (n : ℕ) (a : Ancestry) (f g : Forest) → rows n a (f ⊕ g) ≡ rows n a f ++ rows (n + size f) a g
unfolding rows size ◌⊕◌
rows_append n a none g = rw add-zero
rows_append n a (node t below after) g =
    let e : suc n + size below + size after ≡ n + suc (size below + size after) = omega arith in
    simp (rows_append (suc n + size below) a after g, e, append_assoc)
