-- `scalars`: what is known of each. Assumes nothing.
use Rattle.format.specs.Marks.{bracket}
use Rattle.runs.proofs.MemberLaws.{running_start}
use Rattle.runs.proofs.members.scalars.Goals as goal

pub returns-then-not-is_scalar : goal.returns-then-not-is_scalar
returns-then-not-is_scalar c =
    let i = running_start _ _ bracket c.args.most _ _ _ _ c.requires in (i.passed, i.ends)
