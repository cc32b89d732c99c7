-- The rows of a forest are in order if its tokens are. Assumes nothing.
use Prim.Native.Nat.{ℕ, suc, ◌+◌, ◌≤◌}
use mathlib.Core.List.{List, ◌++◌}
use native.Mathlib.Omega.{arith}
use native.Mathlib.Nat.{le_trans}
use Rattle.format.specs.Tokens.{Forest, size}
use Rattle.format.specs.Rows.{Row, Ancestry, held_by, row_of, rows}
use Rattle.laws.specs.Rising.{Rising, no_row, next_row}
use Rattle.laws.proofs.Order.{InOrder, stop, step, order_size}

rising_from : {low high : ℕ} {l : List Row} (low' : ℕ) → low' ≤ low → Rising low high l → Rising low' high l
rising_from low' h no_row = no_row
rising_from low' h (next_row k i r) = next_row (le_trans h k) i r

rising_append : {low mid high : ℕ} {l k : List Row} → low ≤ mid → mid ≤ high → Rising low mid l → Rising mid high k → Rising low high (l ++ k)
rising_append h i no_row s = rising_from _ h s
rising_append h i (next_row j k r) s = next_row j (le_trans k i) (rising_append (omega arith) i r s)

pub rows_rising : {low high : ℕ} {f : Forest} (n : ℕ) (ancestry : Ancestry) → InOrder low high f → Rising low high (rows n ancestry f)
unfolding rows row_of
rows_rising n ancestry (stop h) = no_row
rows_rising {high = high} n ancestry (step {t = t} {below = below} h u r a) =
    let x = order_size u in
    let y = order_size a in
    next_row {high = high} h (omega arith) (rising_append (omega arith) (omega arith) (rows_rising (suc n) (held_by n ancestry) u) (rising_from _ r.on (rows_rising (suc n + size below) ancestry a)))
