-- `header_at`: depth, row, and what follows the mark. Assumes nothing.
use Prim.Native.Nat.{◌<◌}
use mathlib.Core.Path.{sym}
use native.Mathlib.Omega.{arith}
use Rattle.std.proofs.lemmas.Result.{err_from_is_err_and}
use Rattle.items.proofs.ContainerCases.{nested_deep, nested_no_row, nested_early, nested_typed, nested_plain, nested_count_fault, nested_counted}
use Rattle.items.proofs.headers.header_at.Goals as goal

pub returns-then-levels-eq0-clause-meets : goal.returns-then-levels-eq0-clause-meets
returns-then-levels-eq0-clause-meets c =
    (λ g o. nested_deep _ _ g _ _ o _ c.if-levels-eq0.true)

pub returns-then-lent-row-clause-meets : goal.returns-then-lent-row-clause-meets
returns-then-lent-row-clause-meets c =
    let d : 0 < c.args.levels = omega (arith, c.if-levels-eq0.false) in (λ g o. nested_no_row _ _ g _ _ o _ d c.if-lent-row.true)

pub returns-then-end-next-clause-meets : goal.returns-then-end-next-clause-meets
returns-then-end-next-clause-meets c =
    let d : 0 < c.args.levels = omega (arith, c.if-levels-eq0.false) in (λ g o. nested_early _ _ g _ _ o _ d c.if-lent-row.false c.if-end-next.true)

pub returns-then-b-eq-TYPE-clause-meets : goal.returns-then-b-eq-TYPE-clause-meets
returns-then-b-eq-TYPE-clause-meets c =
    let d : 0 < c.args.levels = omega (arith, c.if-levels-eq0.false) in (λ g o. nested_typed _ _ g _ _ o _ d c.if-lent-row.false c.if-end-next.false c.if-b-eq-TYPE.true)

pub returns-then-b-ne-COUNT-clause-meets : goal.returns-then-b-ne-COUNT-clause-meets
returns-then-b-ne-COUNT-clause-meets c =
    let d : 0 < c.args.levels = omega (arith, c.if-levels-eq0.false) in (λ g o. nested_plain _ _ g _ _ o _ d c.if-lent-row.false c.if-end-next.false c.if-b-eq-TYPE.false c.if-b-ne-COUNT.true)

pub returns-in_err-count-clause-meets : goal.returns-in_err-count-clause-meets
returns-in_err-count-clause-meets c =
    let d : 0 < c.args.levels = omega (arith, c.if-levels-eq0.false) in
    let p = err_from_is_err_and c.from_residual.result c.from_residual.ensures.1 in
    rw (p.1, p.2) (λ g o. nested_count_fault _ _ g _ _ o _ d c.if-lent-row.false c.if-end-next.false c.if-b-eq-TYPE.false c.if-b-ne-COUNT.false _ _ (sym c.in_err-count.ensures.is))

pub returns-clause-meets : goal.returns-clause-meets
returns-clause-meets c =
    let d : 0 < c.args.levels = omega (arith, c.if-levels-eq0.false) in (λ g o. nested_counted _ _ g _ _ o _ d c.if-lent-row.false c.if-end-next.false c.if-b-eq-TYPE.false c.if-b-ne-COUNT.false _ _ (sym c.in_ok-count.ensures.is))
