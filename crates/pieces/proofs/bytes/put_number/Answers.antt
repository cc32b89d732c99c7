-- `put_number`: the mark, and then its digits. Assumes nothing.
use Rattle.pieces.proofs.Putting.{low_digits}
use Rattle.pieces.proofs.bytes.put_number.Goals as goal

pub returns : goal.returns
returns c =
    rw (← low_digits c.args.n _ c.to_le_bytes-digits.ensures _ c.requires.1, ← c.width.ensures) c.put_scalar.ensures
