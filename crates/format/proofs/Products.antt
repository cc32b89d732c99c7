-- Products of numbers of 32 bits, and products that stop at a highest number. Assumes nothing.
use Prim.Native.Nat.{ℕ, zero, suc, ◌*◌, ◌<◌, ◌≤◌, ◌^◌, min}
use mathlib.Core.Path.{◌≡◌, refl, sym, ◌∙◌}
use mathlib.Core.Bool.{Bool, true, false}
use native.Mathlib.Nat.{mul-zero, mul-suc, mul-le-mul, min-eq_left, min-eq_right}
use native.Mathlib.Omega.{arith}
use lib.Dec.{leb}
use borrow.Author.Tests.{leb-true, leb-false}

-- the product of two numbers of 32 bits has 64 at most
pub fits : {a b : ℕ} → a < 2 ^ 32 → b < 2 ^ 32 → a * b < 2 ^ 64
fits {a} {b} p q =
    let g : a ≤ 4294967295 = omega arith in
    let h : b ≤ 4294967295 = omega arith in
    let m : a * b ≤ 4294967295 * 4294967295 = mul-le-mul g h in
    omega arith

-- a factor may be stopped at the highest number first
pub stopped_factor : (top n each : ℕ) → min (min n top * each) top ≡ min (n * each) top
stopped_factor top n zero = rw (mul-zero n, mul-zero (min n top))
stopped_factor top n (suc e) = go (leb n top) refl
  where
    go : (b : Bool) → leb n top ≡ b → min (min n top * suc e) top ≡ min (n * suc e) top
    go true q = rw (min-eq_left (leb-true n top q))
    go false q =
        let k : top < n = leb-false n top q in
        let s = mul-suc n e in
        let t = mul-suc top e in
        let h : top ≤ n = omega arith in
        let a : top ≤ top * suc e = omega arith in
        let b : top ≤ n * suc e = omega arith in
        rw (min-eq_right h) (min-eq_right a ∙ sym (min-eq_right b))
