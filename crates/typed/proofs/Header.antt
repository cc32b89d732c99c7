-- A table's header from its two parts. Assumes nothing.
use Prim.Native.Nat.{ℕ, ◌+◌, ◌<◌, min}
use mathlib.Core.Path.{◌≡◌, ap, ◌∙◌}
use mathlib.Core.Bool.{false}
use mathlib.Core.List.{List}
use native.Mathlib.Omega.{arith}
use lib.ListN.{length, get_or}
use Rattle.format.specs.Marks.{'#'}
use Rattle.format.specs.Tokens.{size}
use Rattle.format.specs.Records.{total_width, placed}
use Rattle.format.specs.Rows.{Ancestry}
use Rattle.format.specs.Dimensions.{shape}
use Rattle.format.specs.Schemas.{table_schema}
use Rattle.format.proofs.Forests.{size_append}
use Rattle.laws.proofs.Order.{size-placed}
use Rattle.tokens.proofs.Sofar.{lay_forest}
use Rattle.kinds.specs.Answers.{over, Read}
use Rattle.shapes.specs.Answers.{Told}
use Rattle.typed.specs.Tables.{HeaderRead}

-- the schema's rows and then those of the dimensions
pub header_read : (m : List ℕ) (lent at row from after wide start link many order : ℕ) (ancestry : Ancestry) (before mid now : List ℕ)
    → Read (table_schema m lent (at + 2) (row + 1)) (row + 1) 0 ancestry before mid from after wide → from < length m → '#' ≡ get_or m from 0
    → Told (shape m lent false (from + 1) after) after ancestry mid now start link many order
    → HeaderRead m lent at row ancestry before now wide start link many order
header_read m lent at row from after wide start link many order ancestry before mid now t there hash u =
    let s = t.forest in
    let d = u.shape.dimensions in
    let z : 0 + total_width s ≡ total_width s = omega arith in
    let e : after ≡ row + 1 + size (placed 0 s) = rw (size-placed 0 s) t.took in
    record {
      schema = s;
      from = from;
      read = t.read;
      there = there;
      hash = hash;
      count = u.shape;
      told = rw (← t.took) u.read;
      wide = t.wide ∙ ap (λ n. min n over) z;
      times = u.times;
      ordered = u.ordered;
      took = rw (size_append (placed 0 s) d) (omega (arith, u.took, e));
      lie = λ h. u.lie ∙ rw (t.lie h, e) (lay_forest before (row + 1) ancestry (placed 0 s) d);
    }
