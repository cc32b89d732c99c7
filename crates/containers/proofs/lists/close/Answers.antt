-- `close`: a refusal, or the row over what is held. Assumes nothing.
use Rattle.std.proofs.lemmas.Result.{err_from_is_err_and}
use Rattle.format.specs.Outcome.{◌>>=◌}
use Rattle.containers.specs.Lists.{closed}
use Rattle.containers.proofs.lists.close.Goals as goal

pub returns-in_err-members-clause-meets : goal.returns-in_err-members-clause-meets
unfolding closed ◌>>=◌
returns-in_err-members-clause-meets c =
    let p = err_from_is_err_and c.from_residual.result c.from_residual.ensures.1 in
    λ o before h. rw (p.1, p.2, rw c.in_err-members.was at h)

pub returns-clause-bounds : goal.returns-clause-bounds
returns-clause-bounds c =
    λ high lent w h. c.enclose.ensures.bounds high lent (rw c.in_ok-members.was at w) h
