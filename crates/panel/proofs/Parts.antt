-- The parts of an answer can be taken out again. Assumes nothing.
use Prim.Native.Nat.{ℕ, ◌+◌, ◌*◌, ◌/◌, ◌%◌, ◌^◌, ◌<◌}
use mathlib.Core.Path.{◌≡◌}
use native.Mathlib.Omega.{arith}
use Rattle.panel.specs.Layout.{parts_of}

pub parts_laid : (n p a : ℕ) → n < 2 ^ 8 → p < 2 ^ 24 → parts_of (n + p * 256 + a * 4294967296) ≡ record { number = n; place = p; amount = a }
unfolding parts_of
parts_laid n p a h k =
    let x : (n + p * 256 + a * 4294967296) % 256 ≡ n = omega arith in
    let q : (n + p * 256 + a * 4294967296) / 256 ≡ p + a * 16777216 = omega arith in
    let y : (p + a * 16777216) % 16777216 ≡ p = omega arith in
    let z : (n + p * 256 + a * 4294967296) / 4294967296 ≡ a = omega arith in
    rw (x, q, y, z)
