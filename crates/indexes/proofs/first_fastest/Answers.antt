-- `first_fastest`: the number of the indexes from the one reached on. Assumes nothing.
use Prim.Native.Nat.{◌-◌}
use native.Mathlib.Omega.{arith}
use Rattle.indexes.proofs.Numbers.{range_length, range_at, first_end, first_on}
use Rattle.indexes.proofs.first_fastest.Goals as goal

pub loop-k-init : goal.loop-k-init
loop-k-init c =
    first_end c.args.extents.now c.args.indexes.now

pub bounds-indexes-k : goal.bounds-indexes-k
bounds-indexes-k c =
    omega (arith, range_length _ _ c.requires)

pub loop-k-preserved : goal.loop-k-preserved
loop-k-preserved c =
    let t = c.loop-k-test.true in
    first_on _ _ c.loop-k.k _ c.loop-k.invariant t c.loop-k.auto.k (range_length _ _ c.requires) (omega (arith, range_at _ _ (c.loop-k.k - 1) c.requires (omega (arith, t, c.loop-k.auto.k)))) _ c.longer-number.ensures
