-- Sums and products of capped numbers. Assumes nothing.
use Prim.Native.Nat.{ℕ, zero, suc, ◌+◌, ◌*◌, ◌≤◌, ◌<◌}
use mathlib.Core.Path.{◌≡◌, refl}
use mathlib.Core.Bool.{Bool, true, false}
use native.Mathlib.Omega.{arith}
use native.Mathlib.Nat.{min-eq_left, min-eq_right, mul-suc}
use lib.Dec.{leb}
use borrow.Author.Tests.{leb-true, leb-false}
use Rattle.format.proofs.Products.{stopped_factor}
use Rattle.indexes.specs.Sums.{most, capped}

less : (n : ℕ) → most < n → most ≤ n
less n h = omega arith

-- one more place: a capped number may be taken for the number, if the extent is not 0
pub capped_longer : (n extent index : ℕ) → 0 < extent → capped (capped (capped n * extent) + index) ≡ capped (n * extent + index)
capped_longer n zero index h = absurd (omega arith)
capped_longer n (suc e) index h = go (leb n most) refl
  where
    go : (b : Bool) → leb n most ≡ b → capped (capped (capped n * suc e) + index) ≡ capped (n * suc e + index)
    go true q = rw (min-eq_left (leb-true n most q)) (omega arith)
    go false q =
        let k : most < n = leb-false n most q in
        let s = mul-suc n e in
        let t = mul-suc most e in
        rw (min-eq_right (less n k)) (omega arith)

-- a capped factor may be taken for the factor
pub capped_factor : (n each : ℕ) → capped (capped n * each) ≡ capped (n * each)
capped_factor n each = stopped_factor most n each

-- so many bytes after a place, for each of a number, and then an offset
pub capped-place : (place many each offset : ℕ) → capped (capped (capped place + capped (capped many * each)) + offset) ≡ capped (place + many * each + offset)
capped-place place many each offset = rw (capped_factor many each) (omega arith)
