-- `rows_needed`: the core with no table. Assumes nothing.
use Rattle.format.specs.Read.{read_whole}
use Rattle.reader.proofs.MessageCases.{answers}
use Rattle.reader.proofs.message.rows_needed.Goals as goal

pub returns : goal.returns
unfolding read_whole
returns c = answers _ _ _ _ c.read_core.ensures.meets
