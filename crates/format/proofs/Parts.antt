-- A part of the message, by its first byte and its number of bytes. Assumes nothing.
use Prim.Native.Nat.{ℕ, ◌+◌, ◌-◌, ◌≤◌}
use mathlib.Core.Path.{◌≡◌}
use mathlib.Core.Bool.{true}
use mathlib.Core.List.{List}
use native.Mathlib.Omega.{arith}
use native.Mathlib.Nat.{add-sub_cancel_left}
use lib.ListN.{length, take, drop, length-drop}
use lib.Seq.{length-take-le}
use borrow.Author.Tests.{leb-true}
use Rattle.format.specs.Bytes.{bytes, within}

module _ (m : List ℕ) (start n : ℕ) where
  -- lent from its start to its end, it is the bytes from its start on
  pub part_is : take (start + n - start) (drop start m) ≡ bytes m start n
  unfolding bytes
  part_is = rw (add-sub_cancel_left start n)

  -- what passes the test lies inside
  pub inside : within (length m) start n ≡ true → start + n ≤ length m
  unfolding within
  inside e = leb-true (start + n) (length m) e

  -- and so has all its bytes
  pub length-bytes : start + n ≤ length m → length (bytes m start n) ≡ n
  unfolding bytes
  length-bytes h = length-take-le n (drop start m) (rw (length-drop start m) (omega arith))
