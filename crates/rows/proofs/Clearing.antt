-- A list that is cleared from a place on. Assumes nothing.
use Prim.Native.Nat.{ℕ, ◌-◌, ◌≤◌, ◌<◌}
use mathlib.Core.Path.{◌≡◌}
use mathlib.Core.List.{List, [], ◌++◌, append-nil}
use native.Mathlib.Omega.{arith}
use native.Mathlib.Nat.{sub-zero}
use lib.ListN.{length, take, drop, replicate, length-drop, drop_of_length-le}
use lib.Seq.{take_all, length-take-le}
use borrow.Rule.Slice.PartMut.{mid_of, put_mid}
use Rattle.format.specs.Rows.{zeros}
use Rattle.rows.specs.Clearing.{cleared_from}

-- from its end on
pub cleared_past : {A : Type 0} (z : A) (l : List A) (from : ℕ) → length l ≤ from → l ≡ take from l ++ replicate (length l - from) z
cleared_past z l from h = let e : length l - from ≡ 0 = omega arith in rw (e, take_all from l h, append-nil l)

-- in its midst: the part from there on is zeros
pub cleared_part : {A : Type 0} (z : A) (l part : List A) (from : ℕ) → from < length l → part ≡ replicate (length (mid_of from (length l - from) l)) z
    → put_mid from (length l - from) l part ≡ take from l ++ replicate (length l - from) z
cleared_part z l part from h e =
    let d = length-drop from l in
    let n : length (take (length l - from) (drop from l)) ≡ length l - from = length-take-le (length l - from) (drop from l) (omega arith) in
    let p : drop (length l - from) (drop from l) ≡ [] = drop_of_length-le (drop from l) {i = length l - from} (omega arith) in
    rw (e, n, p, append-nil (replicate (length l - from) z))

-- whole
pub cleared_all : (l : List ℕ) → cleared_from l 0 ≡ zeros (length l)
cleared_all l = rw (sub-zero (length l))
