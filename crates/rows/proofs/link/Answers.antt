-- `link`: word 6. Assumes nothing.
use Rattle.format.specs.Rows.{row_at}
use Rattle.rows.proofs.link.Goals as goal

pub returns : goal.returns
unfolding row_at
returns c =
    c.word.ensures.is
