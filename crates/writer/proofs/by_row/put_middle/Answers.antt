-- `put_middle`: `#`, and the start of the shape. Assumes nothing.
use Rattle.writer.specs.Pieces.{middle}
use Rattle.pieces.proofs.Putting.{puts_append}
use Rattle.writer.proofs.by_row.put_middle.Goals as goal

pub returns : goal.returns
unfolding middle
returns c =
    puts_append _ _ c.put-next.ensures c.put_shape_start.ensures
