-- The end of each of `scalars`. Assumes nothing.
use Rattle.std.proofs.lemmas.Option.{IfSome_then}
use Rattle.runs.proofs.MemberLaws.{scalar_alone}
use Rattle.runs.proofs.members.fn.scalars.end.Goals as goal

pub returns : goal.returns
returns c = IfSome_then c.scalar_end.result c.scalar_end.ensures (scalar_alone _ _)
