-- `buffers::long`: by the law of a repeat's length, which counts nothing. Assumes nothing.
use Rattle.std.proofs.Common.{ℕ, sym}
use lib.ListN.{length-replicate}
use Rattle.compare.proofs.buffers.long.Goals as goal

pub returns : goal.returns
returns c =
    sym (length-replicate {0} {A = ℕ} 1048577 78)
