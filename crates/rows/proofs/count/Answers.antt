-- `count`: the table's words, ten to a row. Assumes nothing.
use mathlib.Core.Path.{refl}
use Rattle.format.specs.Rows.{rows_in}
use Rattle.rows.proofs.count.Goals as goal

pub returns : goal.returns
unfolding rows_in
returns c =
    refl
