-- `load`: the chunk of ten words at the row. Assumes nothing.
use native.Mathlib.Omega.{arith}
use Rattle.format.specs.Rows.{rows_in}
use Rattle.rows.proofs.Chunks.{row_there}
use Rattle.rows.proofs.load.Goals as goal

pub returns-in-Some-clause-there : goal.returns-in-Some-clause-there
returns-in-Some-clause-there c =
    λ h. row_there c.args.rows.now c.in-Some.field-0.now c.args.row (rw c.as_chunks.ensures.front at c.in-Some.ensures.lookup.1) h

pub returns-in-Some-clause-past : goal.returns-in-Some-clause-past
unfolding rows_in
returns-in-Some-clause-past c =
    λ h. absurd (omega (arith, c.in-Some.ensures.lookup.3.0, c.as_chunks.ensures.front_len))

pub returns-in-None-clause-there : goal.returns-in-None-clause-there
unfolding rows_in
returns-in-None-clause-there c =
    λ h. absurd (omega (arith, c.in-None.ensures.lookup.3, c.as_chunks.ensures.front_len))
