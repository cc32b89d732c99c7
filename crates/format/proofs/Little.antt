-- The little-endian number of some bytes: its lowest byte, its bound, and its highest bit; the bytes of a number. Assumes nothing.
use Prim.Native.Nat.{ℕ, zero, suc, ◌+◌, ◌*◌, ◌/◌, ◌^◌, ◌≤◌, ◌<◌}
use mathlib.Core.Path.{◌≡◌, refl, ap}
use mathlib.Core.List.{List, [], ◌∷◌}
use mathlib.Core.Logic.{◌↔◌}
use native.Mathlib.Omega.{arith}
use native.Mathlib.Nat.{pow-suc, one-le-pow}
use native.Mathlib.Numerals.{add-one}
use lib.ListN.{length, get_or, take, drop, length-drop}
use lib.Seq.{drop-cons, get_or-drop}
use Rattle.format.specs.Bytes.{little, bytes}
use Rattle.format.specs.HouseForm.{digits}

-- every number of the list is a byte
abbrev pub Small : List ℕ → Type 0
Small m = (i : ℕ) → get_or m i 0 < 256

pub little_front : (m : List ℕ) (at n : ℕ) → at < length m → little (bytes m at (suc n)) ≡ get_or m at 0 + 256 * little (bytes m (at + 1) n)
unfolding little bytes
little_front m at n h = rw (add-one at, drop-cons m at 0)

take_bound : (n : ℕ) (l : List ℕ) → Small l → little (take n l) < 256 ^ n
unfolding little
take_bound zero l s = omega arith
take_bound (suc n) [] s = one-le-pow (suc n) 256 (omega arith)
take_bound (suc n) (b ∷ l) s =
    let h = take_bound n l (λ i. s (suc i)) in
    let k = s 0 in
    rw (pow-suc 256 n) (omega arith)

pub drop_small : (at : ℕ) (m : List ℕ) → Small m → Small (drop at m)
drop_small at m s i = rw (get_or-drop at m i 0) (s (at + i))

-- n bytes are below 256 ^ n
pub little_bound : (m : List ℕ) (at n : ℕ) → Small m → little (bytes m at n) < 256 ^ n
unfolding bytes
little_bound m at n s = take_bound n (drop at m) (drop_small at m s)

-- ---- the highest bit

-- of n + 1 bytes the last holds the highest bit of the number
top_bit : (n : ℕ) (l : List ℕ) → Small l → n < length l → (128 ≤ get_or l n 0) ↔ (256 ^ suc n ≤ 2 * little (take (suc n) l))
unfolding little
top_bit n [] s h = absurd (omega arith)
top_bit zero (b ∷ l) s h = (λ k. omega arith, λ k. omega arith)
top_bit (suc n) (b ∷ l) s h =
    let r = top_bit n l (λ i. s (suc i)) (omega arith) in
    let k = s 0 in
    let p = pow-suc 256 n in (
      λ u. let v = r.0 u in rw (pow-suc 256 (suc n)) (omega arith),
      λ u. r.1 (let v = rw (pow-suc 256 (suc n)) at u in omega arith),
    )

-- the highest bit of n + 1 bytes from a place on
pub little_sign : (m : List ℕ) (at n : ℕ) → Small m → at + n < length m
    → (128 ≤ get_or m (at + n) 0) ↔ (256 ^ suc n ≤ 2 * little (bytes m at (suc n)))
unfolding bytes
little_sign m at n s h =
    rw (← get_or-drop at m n 0) (top_bit n (drop at m) (drop_small at m s) (rw (length-drop at m) (omega arith)))

-- as many bytes as were asked for
pub length_digits : (k n : ℕ) → length (digits k n) ≡ k
unfolding digits
length_digits zero n = refl
length_digits (suc k) n = ap suc (length_digits k (n / 256))
