-- A part of a message that may reach past its end. Assumes nothing.
use Prim.Native.Nat.{ℕ, ◌-◌, min}
use mathlib.Core.Path.{◌≡◌, ap, ◌∙◌}
use mathlib.Core.List.{List}
use native.Mathlib.Omega.{arith}
use lib.ListN.{length, take, drop, length-drop}
use lib.Seq.{take_all}
use Rattle.std.proofs.lemmas.List.{take_min, drop_min}
use Rattle.format.specs.Bytes.{bytes}

-- the rest of a message from a place on, and so much of it
pub part_there : (m : List ℕ) (at n a k : ℕ) → a ≡ min at (length m) → k ≡ min n (length (take (length m - a) (drop a m)))
    → take k (take (length m - a) (drop a m)) ≡ bytes m at n
unfolding bytes
part_there m at n a k e f =
    let rest : take (length m - a) (drop a m) ≡ drop at m =
    take_all (length m - a) (drop a m) (omega (arith, length-drop a m)) ∙ ap (λ x. drop x m) e ∙ drop_min at m in
    rw (f, rest) (take_min n (drop at m))
