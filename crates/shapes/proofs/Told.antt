-- The shapes that are told: of a plain count, and of dimensions. Assumes nothing.
use Prim.Native.Nat.{ℕ, ◌≤◌}
use mathlib.Core.Path.{◌≡◌, refl, sym}
use mathlib.Core.List.{List}
use native.Mathlib.Omega.{arith}
use native.Mathlib.Nat.{min-eq_left}
use Rattle.format.specs.Outcome.{Parsed, done}
use Rattle.format.specs.Limits.{limit}
use Rattle.format.specs.Tokens.{Forest, none, plain_count, size}
use Rattle.format.specs.Dimensions.{Shape, shaped}
use Rattle.format.specs.Rows.{Ancestry, rows}
use Rattle.rows.specs.Overlay.{lay}
use Rattle.dimensions.specs.Answers.{Laid}
use Rattle.shapes.specs.Answers.{Told}

-- a plain count has no dimensions
pub told_plain : (n next row : ℕ) (ancestry : Ancestry) (words : List ℕ) → n ≤ limit
    → Told (done (record { many = n; dimensions = none; order = plain_count }, next)) row ancestry words words next row n plain_count
unfolding size rows lay
told_plain n next row ancestry words h =
    record {
      shape = record { many = n; dimensions = none; order = plain_count };
      read = refl;
      took = omega arith;
      times = sym (min-eq_left (omega arith));
      ordered = refl;
      lie = refl;
    }

-- the shape of dimensions
pub told_shaped : (o : Parsed Forest) (s : Parsed Shape) (order row next end row' many : ℕ) (ancestry : Ancestry) (before now : List ℕ) (l : Laid o row ancestry before now next row' many)
    → s ≡ done (shaped order l.forest, end) → Told s row ancestry before now end row' many order
unfolding shaped
told_shaped o s order row next end row' many ancestry before now l e =
    record { shape = shaped order l.forest; read = e; took = l.took; times = l.times; ordered = refl; lie = l.lie }
