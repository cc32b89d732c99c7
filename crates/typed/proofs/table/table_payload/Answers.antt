-- `table_payload`: the two limits, the payload’s end, its content. Assumes nothing.
use Prim.Native.Nat.{◌+◌, ◌*◌, ◌≤◌}
use mathlib.Core.Path.{◌≡◌}
use native.Mathlib.Omega.{arith}
use lib.ListN.{length}
use Rattle.format.specs.Conditions.{when◌then◌else◌}
use Rattle.format.specs.Tokens.{is_kind, members, ◌⊕◌}
use Rattle.format.specs.Records.{total_width, placed}
use Rattle.format.specs.Storage.{member_row}
use Rattle.format.specs.Containers.{stored}
use Rattle.typed.proofs.TableCases.{table_over, table-wide, table_end, table_there}
use Rattle.typed.proofs.table.table_payload.Goals as goal

pub returns-then-many-clause-meets : goal.returns-then-many-clause-meets
returns-then-many-clause-meets c =
    (λ lent before h. table_over _ _ _ _ _ h.schema h.from h.read h.there h.hash h.count _ h.told (omega (arith, h.times, c.if-many.true)))

pub returns-then-wide-gt-RECORD_LIMIT-clause-meets : goal.returns-then-wide-gt-RECORD_LIMIT-clause-meets
returns-then-wide-gt-RECORD_LIMIT-clause-meets c =
    (λ lent before h. table-wide _ _ _ _ _ h.schema h.from h.read h.there h.hash h.count _ h.told (omega (arith, h.times, c.if-many.false)) (omega (arith, h.wide, c.if-wide-gt-RECORD_LIMIT.true)))

pub returns-then-end-start-clause-meets : goal.returns-then-end-start-clause-meets
returns-then-end-start-clause-meets c =
    (λ lent before h.
    let few : h.count.many ≡ c.args.count.many = omega (arith, h.times, c.if-many.false) in
    let narrow : total_width h.schema ≡ c.args.wide = omega (arith, h.wide, c.if-wide-gt-RECORD_LIMIT.false) in
    table_end _ _ _ _ _ h.schema h.from h.read h.there h.hash h.count _ h.told (rw few (omega arith)) (rw narrow (omega arith)) (rw (few, narrow) (omega (arith, c.if-end-start.true))))

pub returns-clause-meets : goal.returns-clause-meets
unfolding stored members is_kind when◌then◌else◌
returns-clause-meets c =
    let z = c.store_row in
    let q = c.table_contents-content.ensures in
    let o = c.opening_mark-mark.ensures in
    let a = c.args in (λ lent before h.
    let few : h.count.many ≡ a.count.many = omega (arith, h.times, c.if-many.false) in
    let narrow : total_width h.schema ≡ a.wide = omega (arith, h.wide, c.if-wide-gt-RECORD_LIMIT.false) in
    let fits : a.count.at + h.count.many * total_width h.schema ≤ length a.message.now = rw (few, narrow) (omega (arith, c.if-end-start.false)) in
    let content = rw (← few) at (q lent (a.row + 1) h.from (member_row a.row) h.schema (record { reads = h.read; width_is = narrow; narrow = omega (arith, c.if-wide-gt-RECORD_LIMIT.false); few = omega (arith, c.if-many.false); short = c.requires.short; inside = omega (arith, c.if-end-start.false) })) in
    rw (table_there _ _ _ _ _ h.schema h.from h.read h.there h.hash h.count _ h.told (rw few (omega arith)) (rw narrow (omega arith)) c.table_contents-content.result fits content, few, narrow, ← h.ordered, ← o, ← c.number.ensures) (z.ensures.meets before (placed 0 h.schema ⊕ h.count.dimensions) h.took (h.lie (omega (arith, c.if-wide-gt-RECORD_LIMIT.false)))))
