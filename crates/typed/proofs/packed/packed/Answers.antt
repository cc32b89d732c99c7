-- `packed`: shape, product, payload end, content. Assumes nothing.
use Prim.Native.Nat.{◌+◌, ◌*◌, ◌≤◌}
use mathlib.Core.Path.{◌≡◌, refl}
use native.Mathlib.Omega.{arith}
use lib.ListN.{length}
use native.Mathlib.Nat.{mul-le-mul}
use Rattle.format.specs.Conditions.{when◌then◌else◌}
use Rattle.std.proofs.lemmas.Result.{err_from_is_err_and}
use Rattle.format.specs.Outcome.{◌>>=◌}
use Rattle.format.specs.Limits.{limit}
use Rattle.format.specs.Marks.{width}
use Rattle.format.specs.Tokens.{is_kind, members}
use Rattle.format.specs.Containers.{stored, packed}
use Rattle.format.proofs.MarkFacts.{width_few}
use Rattle.typed.proofs.PackedCases.{packed_over, packed_early, packed_there}
use Rattle.typed.proofs.packed.packed.Goals as goal

pub returns-then-many-clause-meets : goal.returns-then-many-clause-meets
returns-then-many-clause-meets c =
    let t = c.in_ok-count.ensures.meets in packed_over _ _ _ _ _ _ t.shape _ t.read (omega (arith, t.times))

pub overflow_mul-extent : goal.overflow_mul-extent
overflow_mul-extent c =
    let few : c.in_ok-count.count.many ≤ limit = omega arith in
    let narrow : c.width.result ≤ 8 = rw c.width.ensures (width_few _) in omega (arith, mul-le-mul few narrow)

pub returns-then-end-next-clause-meets : goal.returns-then-end-next-clause-meets
returns-then-end-next-clause-meets c =
    let t = c.in_ok-count.ensures.meets in
    let w = c.in_ok-count.ensures.bounds in
    let k : t.shape.many ≡ c.in_ok-count.count.many = omega (arith, t.times, c.if-many.false) in
    let e : t.shape.many * width c.args.mark ≡ c.in_ok-count.count.many * c.width.result = rw (k, c.width.ensures) refl in packed_early _ _ _ _ _ _ t.shape _ t.read (omega arith) (omega (arith, c.if-end-next.true))

pub returns-in_err-count-clause-meets : goal.returns-in_err-count-clause-meets
unfolding packed ◌>>=◌
returns-in_err-count-clause-meets c =
    let p = err_from_is_err_and c.from_residual.result c.from_residual.ensures.1 in
    rw (p.1, p.2, c.in_err-count.ensures.meets)

pub returns-clause-meets : goal.returns-clause-meets
unfolding stored members is_kind when◌then◌else◌
returns-clause-meets c =
    let t = rw c.held_by-children.ensures.is at c.in_ok-count.ensures.meets in
    let w = c.in_ok-count.ensures.bounds in
    let k : c.in_ok-count.count.many ≡ t.shape.many = omega (arith, t.times, c.if-many.false) in
    let z = c.store_row in
    let p = c.packed_contents-content in
    let a = c.args in
    let few : t.shape.many ≤ limit = omega (arith, c.if-many.false) in
    let fits : c.in_ok-count.count.at + t.shape.many * width a.mark ≤ length a.message.now = rw (← k, ← c.width.ensures) (omega (arith, c.if-end-next.false)) in
    let q = rw k at (p.ensures a.row) in rw (packed_there _ _ _ _ _ _ t.shape _ t.read few p.result fits q, ← k, ← c.width.ensures, ← t.ordered, ← c.number.ensures) (z.ensures.meets _ t.shape.dimensions t.took t.lie)
