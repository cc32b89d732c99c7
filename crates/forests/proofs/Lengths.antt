-- What a row writes is short. Assumes nothing.
use Prim.Native.Nat.{ℕ, ◌+◌, ◌≤◌}
use mathlib.Core.Bool.{Bool, true, false}
use mathlib.Core.List.{List, [], ◌++◌}
use native.Mathlib.Omega.{arith}
use lib.ListN.{length, drop, length-append, length-take, length-drop}
use lib.Dec.{eqb}
use Rattle.format.specs.Conditions.{when◌then◌else◌}
use Rattle.format.specs.Limits.{limit}
use Rattle.format.specs.Marks.{letter_of, 'S'}
use Rattle.format.specs.Rows.{Row}
use Rattle.format.specs.Bytes.{bytes}
use Rattle.format.specs.Extensions.{id_bytes}
use Rattle.format.specs.HouseForm.{small_integer}
use Rattle.pieces.specs.Shapes.{shape_start, shape_end}
use Rattle.writer.specs.Pieces.{payload_at, single, head, middle, tail}
use Rattle.pieces.proofs.Putting.{integer_few, id_few, end_few}

-- so many bytes at most
record Few (n : ℕ) (l : List ℕ) : Type 0 where
  few : length l ≤ n

-- what holds of both holds of either
either : {n : ℕ} {x y : List ℕ} (b : Bool) → Few n x → Few n y → Few n (when b then x else y)
unfolding when◌then◌else◌
either true h k = h
either false h k = k

start_few : (order n : ℕ) → Few 9 (shape_start order n)
unfolding shape_start
start_few order n = either _ (record { few = integer_few n }) (either _ (record { few = omega arith }) (record { few = omega arith }))

pub head_few : (r : Row) → length (head r) ≤ 13
unfolding head
head_few r = go.few
  where
    go : Few 13 (head r)
    go =
        let i = integer_few r.count in
        let s = start_few r.order r.count in
        either _ (record { few = omega arith }) (either _ (record { few = omega arith }) (either _ (record { few = omega arith }) (record { few = omega arith })))

pub middle_few : (r : Row) → length (middle r) ≤ 10
unfolding middle
middle_few r = let s = start_few r.order r.count in omega arith

module _ (m : List ℕ) (short : length m ≤ limit) where
  bytes_few : (at n : ℕ) → length (bytes m at n) ≤ limit
  unfolding bytes
  bytes_few at n = omega (arith, length-take n (drop at m), length-drop at m)

  pub single_few : (r : Row) → length (single m r) ≤ limit + 10
  unfolding single payload_at
  single_few r = go.few
    where
      go : Few (limit + 10) (single m r)
      go =
          let b = bytes_few r.payload r.extent in
          let i = integer_few r.extent in
          let c = integer_few r.count in
          let l = length-append (small_integer r.extent) (bytes m r.payload r.extent) in
          let k : Few 9 (when eqb (letter_of r.mark) 'S' then small_integer r.extent else []) = either _ (record { few = i }) (record { few = omega arith }) in
          either _ (record { few = omega arith }) (either _ (record { few = omega arith }) (either _ (record { few = omega arith }) (either _ (record { few = omega arith }) (record { few = omega arith }))))

  pub tail_few : (r : Row) → length (tail m r) ≤ limit + 18
  unfolding tail payload_at
  tail_few r = go.few
    where
      go : Few (limit + 18) (tail m r)
      go =
          let b = bytes_few r.payload r.extent in
          let e = end_few r.order in
          let l = length-append (shape_end r.order) (bytes m r.payload r.extent) in
          let d = id_few m r.first in
          let i = integer_few r.extent in
          let p = length-append (small_integer r.extent) (bytes m r.payload r.extent) in
          let q = length-append (id_bytes m r.first) (small_integer r.extent ++ bytes m r.payload r.extent) in
          either _ (record { few = omega arith }) (either _ (record { few = omega arith }) (either _ (record { few = omega arith }) (record { few = omega arith })))
