-- The end of each of `texts`. Assumes nothing.
use Rattle.std.proofs.lemmas.Option.{IfSome_then}
use Rattle.runs.proofs.MemberLaws.{text_alone}
use Rattle.runs.proofs.members.fn.texts.end.Goals as goal

pub returns : goal.returns
returns c = IfSome_then c.text_end.result c.text_end.ensures (text_alone _ _)
