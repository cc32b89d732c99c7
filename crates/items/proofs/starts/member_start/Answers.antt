-- `member_start`: a value, or a key and a value. Assumes nothing.
use Rattle.std.proofs.lemmas.Result.{err_from_is_err_and}
use Rattle.items.proofs.ItemLaws.{member_plain, member-key-fault, member_keyed}
use Rattle.items.proofs.starts.member_start.Goals as goal

pub returns-then-not-brace-clause-meets : goal.returns-then-not-brace-clause-meets
returns-then-not-brace-clause-meets c =
    let v = c.value_start in member_plain _ _ _ _ _ c.args.brace c.if-not-brace.true v.result _ _ _ v.ensures.meets

pub returns-in_err-end-clause-meets : goal.returns-in_err-end-clause-meets
returns-in_err-end-clause-meets c =
    let p = err_from_is_err_and c.from_residual.result c.from_residual.ensures.1 in
    rw (p.1, p.2) (member-key-fault _ _ _ _ _ c.args.brace c.if-not-brace.false _ _ c.in_err-end.ensures.meets)

pub returns-clause-meets : goal.returns-clause-meets
returns-clause-meets c =
    let v = c.value_start-2 in member_keyed _ _ _ _ _ c.args.brace c.if-not-brace.false v.result _ _ _ _ _ _ c.in_ok-end.ensures.meets (rw c.skip-here.ensures.is at v.ensures.meets)
