-- `put_extension`: the id, and then as a key. Assumes nothing.
use native.Mathlib.Omega.{arith}
use Rattle.writer.specs.Pieces.{payload_at}
use Rattle.pieces.proofs.Putting.{puts_append, id_few}
use Rattle.writer.proofs.by_row.put_extension.Goals as goal

pub put_key-requires : goal.put_key-requires
unfolding payload_at
put_key-requires c =
    omega (arith, c.put_id-after.ensures.reach, id_few c.args.message.now c.args.r.first, c.requires)

pub returns : goal.returns
unfolding payload_at
returns c =
    rw (← c.part-payload.ensures) (puts_append _ _ c.put_id-after.ensures c.put_key.ensures)
