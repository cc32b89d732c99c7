-- `pair`: the key, then the value. Assumes nothing.
use Rattle.std.proofs.lemmas.Result.{err_from_is_err_and}
use Rattle.tokens.proofs.Sofar.{seq_fault, seq_meets}
use Rattle.containers.specs.Lists.{pair_of}
use Rattle.containers.proofs.pairs.pair.Goals as goal

pub returns-in_err-end-clause-meets : goal.returns-in_err-end-clause-meets
unfolding pair_of
returns-in_err-end-clause-meets c =
    let p = err_from_is_err_and c.from_residual.result c.from_residual.ensures.1 in
    rw (p.1, p.2) (seq_fault _ _ _ _ _ _ c.in_err-end.ensures.meets)

pub returns-clause-meets : goal.returns-clause-meets
unfolding pair_of
returns-clause-meets c =
    let v = c.unmarked in seq_meets v.result _ _ _ _ _ _ _ 1 _ _ _ _ c.in_ok-end.ensures.meets v.ensures.meets
