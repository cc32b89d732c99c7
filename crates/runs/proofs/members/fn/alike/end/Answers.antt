-- The end of each of `alike`. Assumes nothing.
use Rattle.std.proofs.lemmas.Option.{IfSome_then}
use Rattle.runs.proofs.MemberLaws.{scalar_alone}
use Rattle.runs.proofs.members.fn.alike.end.Goals as goal

pub returns : goal.returns
returns c = IfSome_then c.alike_end.result c.alike_end.ensures (scalar_alone _ _)
