-- `put`: the row that the struct stands for is stored. Assumes nothing.
use Rattle.format.specs.Rows.{row_of}
use Rattle.tokens.proofs.entry.put.Goals as goal

pub returns : goal.returns
unfolding row_of
returns c =
    rw (← c.number.ensures) c.store.ensures
