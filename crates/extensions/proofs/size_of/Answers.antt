-- `size_of`: at the last arm the id is none of the others' numbers. Assumes nothing.
use Prim.Native.Nat.{ℕ, zero, suc, ◌<◌}
use mathlib.Core.Path.{◌≡◌, refl, sym}
use mathlib.Core.List.{◌∷◌}
use native.Mathlib.Omega.{arith}
use lib.ListN.{get_or-eq_default}
use Rattle.format.specs.Extensions.{sizes, size_of}
use Rattle.extensions.proofs.size_of.Goals as goal

-- an id above 10 has any size
above : (id n : ℕ) → 10 < id → n ≡ size_of id n
unfolding size_of
above id n h = sym (get_or-eq_default (n ∷ sizes) n {n = id} h)

-- and so has 0
opaque-size : (id n : ℕ) → (0 < id → 10 < id) → n ≡ size_of id n
unfolding size_of
opaque-size zero n h = refl
opaque-size (suc id) n h = above (suc id) n (h (omega arith))

pub returns-in_default : goal.returns-in_default
unfolding size_of
returns-in_default c =
    opaque-size _ _ (λ h. omega arith)
