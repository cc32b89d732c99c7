-- `put_payload`: the end of the shape, and the payload. Assumes nothing.
use native.Mathlib.Omega.{arith}
use Rattle.pieces.proofs.Putting.{puts_append, end_few}
use Rattle.writer.proofs.by_row.put_payload.Goals as goal

pub put_part-requires : goal.put_part-requires
put_part-requires c =
    omega (arith, c.put_shape_end-next.ensures.reach, end_few c.args.order, c.requires)

pub returns : goal.returns
returns c =
    rw (← c.part-payload.ensures) (puts_append _ _ c.put_shape_end-next.ensures c.put_part.ensures)
