-- `is_list`: by the kind. Assumes nothing.
use Rattle.writer.proofs.KindCases.{no_list, list_kind, other_list}
use Rattle.writer.proofs.kinds.is_list.Goals as goal

pub returns-in_default : goal.returns-in_default
returns-in_default c = no_list _ c.in_default.ensures

pub returns-in-Array : goal.returns-in-Array
returns-in-Array c =
    list_kind _ _ c.in-Ok.ensures c.in-Array.is

pub returns-in_default-matches : goal.returns-in_default-matches
returns-in_default-matches c = other_list _ _ c.in-Ok.ensures c.in_default-matches.not-Array c.in_default-matches.not-Object
