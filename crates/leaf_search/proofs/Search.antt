-- The search for a leaf, over forests: one and then another, a leaf, a group, a member with its key. Assumes nothing.
use Prim.Native.Nat.{ℕ, ◌+◌}
use mathlib.Core.Path.{◌≡◌, refl}
use native.Mathlib.Omega.{arith}
use Rattle.format.specs.Conditions.{when◌then◌else◌}
use Rattle.format.specs.Marks.{Opening, bracket, brace}
use Rattle.format.specs.Tokens.{is_kind, Forest, none, node, ◌⊕◌}
use Rattle.format.specs.Records.{member_width, total_width}
use Rattle.format.specs.Schemas.{leaf, group}
use Rattle.laws.proofs.Schemas.{group_kind}
use Rattle.contents.specs.Items.{Unkeyed, bare, named}
use Rattle.leaf_search.specs.Search.{passed, past}
use Rattle.leaf_search.specs.declared.leaves.Seen.{Seen}

pub past_append : (f g : Forest) (offset : ℕ) (seen : Seen) → past (f ⊕ g) offset seen ≡ past g (offset + total_width f) (past f offset seen)
unfolding past ◌⊕◌ total_width
past_append none g offset seen = let z : offset + 0 ≡ offset = omega arith in rw z
past_append (node t below after) g offset seen =
    let e : offset + member_width t + total_width after ≡ offset + (member_width t + total_width after) = omega arith in
    rw (past_append after g, e)

pub past-leaf : (mark at w offset : ℕ) (seen : Seen) → past (leaf mark at w) offset seen ≡ passed seen offset w
unfolding past leaf is_kind when◌then◌else◌
past-leaf mark at w offset seen = refl

pub past-group : (o : Opening) (at : ℕ) (under : Forest) (offset : ℕ) (seen : Seen) → past (group (group_kind o) o at under) offset seen ≡ past under offset seen
unfolding past group is_kind when◌then◌else◌
past-group bracket at under offset seen = refl
past-group brace at under offset seen = refl

-- a key holds no leaf and takes no bytes
pub past_unkeyed : {f g : Forest} → Unkeyed f g → (offset : ℕ) (seen : Seen) → past f offset seen ≡ past g offset seen
unfolding past member_width is_kind when◌then◌else◌
past_unkeyed bare offset seen = refl
past_unkeyed (named k) offset seen = let z : offset + 0 ≡ offset = omega arith in rw (k, z)
