-- `put_id`: the mark, and as many bytes as it has. Assumes nothing.
use Rattle.format.specs.Extensions.{id_bytes}
use Rattle.writer.proofs.by_row.put_id.Goals as goal

pub returns : goal.returns
unfolding id_bytes
returns c =
    rw (← c.byte_at-mark.ensures, ← c.width-width.ensures, ← c.part-number.ensures) c.put_scalar.ensures
