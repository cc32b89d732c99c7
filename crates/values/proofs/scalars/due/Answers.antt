-- `due`: by whether the token is a leaf. Assumes nothing.
use mathlib.Core.Path.{◌≡◌, refl}
use mathlib.Core.Bool.{false}
use Rattle.format.specs.Conditions.{when◌then◌else◌}
use Rattle.format.specs.Tokens.{leaf, is_kind}
use Rattle.format.specs.Answers.{kind_of}
use Rattle.format.specs.declared.answers.Kind.{Kind}
use Rattle.format.specs.declared.answers.Kind.TheVariants.{Scalar, Text, HighPrecision, Key, Array, Object, Packed, Table, Leaf, SchemaRecord, FixedArray, Dimension, Extension}
use Rattle.values.specs.Due as Due
use Rattle.values.proofs.scalars.due.Goals as goal

no_leaf : (k : Kind) → (k ≡ Leaf → ⊥) → is_kind leaf (kind_of k) ≡ false
unfolding is_kind
no_leaf Scalar o = refl
no_leaf Text o = refl
no_leaf HighPrecision o = refl
no_leaf Key o = refl
no_leaf Array o = refl
no_leaf Object o = refl
no_leaf Packed o = refl
no_leaf Table o = refl
no_leaf Leaf o = absurd (o refl)
no_leaf SchemaRecord o = refl
no_leaf FixedArray o = refl
no_leaf Dimension o = refl
no_leaf Extension o = refl

pub returns-in-Leaf : goal.returns-in-Leaf
unfolding Due.due is_kind when◌then◌else◌
returns-in-Leaf c =
    rw c.in-Leaf.is c.leaf_width.ensures

pub returns-in_default : goal.returns-in_default
unfolding Due.due is_kind when◌then◌else◌
returns-in_default c =
    rw (no_leaf c.args.kind c.in_default.not-Leaf) c.width.ensures
