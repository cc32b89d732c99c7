-- Lengths, counts and dimensions as they are written: in the smallest of `U u m`, and read back. Assumes nothing.
use Prim.Native.Nat.{ℕ, zero, suc, ◌^◌, ◌/◌, ◌≤◌, ◌<◌}
use mathlib.Core.Path.{◌≡◌, refl, sym, ◌∙◌}
use mathlib.Core.Bool.{Bool, true, false, not, ◌&&◌, ◌||◌, or-false}
use mathlib.Core.List.{List, [], ◌∷◌}
use native.Mathlib.Omega.{arith}
use native.Mathlib.Nat.{div-add-mod, pow-suc}
use lib.Dec.{leb, ltb}
use borrow.Author.Tests.{ltb-true, leb-true, lt-ltb}
use Rattle.format.specs.Conditions.{when◌then◌else◌, among, all}
use Rattle.format.specs.Limits.{limit}
use Rattle.format.specs.Marks.{width, 'U', 'u', 'm'}
use Rattle.format.specs.Bytes.{little}
use Rattle.format.specs.Integers.{smallest}
use Rattle.format.specs.HouseForm.{digits}
use Rattle.format.proofs.MarkFacts.{among_passes}

-- ---- digits

-- a number that so many bytes hold
pub little-digits : (k n : ℕ) → n < 256 ^ k → little (digits k n) ≡ n
unfolding digits little
little-digits zero n h = omega arith
little-digits (suc k) n h =
    let e = little-digits k (n / 256) (omega (arith, pow-suc 256 k, div-add-mod n 256)) in
    rw e (omega (arith, div-add-mod n 256))

-- ---- the smallest mark

-- the marks of house form
abbrev pub small_marks : List ℕ
small_marks = 'U' ∷ 'u' ∷ 'm' ∷ []

smallest-among : (n : ℕ) → among small_marks (smallest n) ≡ true
unfolding smallest among when◌then◌else◌
smallest-among n = go (ltb n _) (ltb n _)
  where
    go : (x y : Bool) → among small_marks (when x then 'U' else when y then 'u' else 'm') ≡ true
    go true y = refl
    go false true = refl
    go false false = refl

-- what all three pass, the smallest passes
pub smallest_passes : (p : ℕ → Bool) (n : ℕ) → all p small_marks ≡ true → p (smallest n) ≡ true
smallest_passes p n h = among_passes p small_marks (smallest n) h (smallest-among n)

-- it holds the number
pub smallest_holds : (n : ℕ) → n ≤ limit → n < 256 ^ width (smallest n)
unfolding smallest width among when◌then◌else◌
smallest_holds n h = go (ltb n (256 ^ 1)) (ltb n (256 ^ 2)) refl refl
  where
    go : (x y : Bool) → ltb n (256 ^ 1) ≡ x → ltb n (256 ^ 2) ≡ y → n < 256 ^ width (when x then 'U' else when y then 'u' else 'm')
    go true y e f = omega (arith, ltb-true)
    go false true e f = omega (arith, ltb-true)
    go false false e f = omega arith

-- a mark is as wide as this one at least, or doesn't hold the number
abbrev NoNarrower : ℕ → ℕ → ℕ → Bool
NoNarrower n small k = leb (width small) (width k) || not (ltb n (256 ^ width k))

no_narrower : (n : ℕ) → all (NoNarrower n (smallest n)) small_marks ≡ true
unfolding smallest width all among when◌then◌else◌
no_narrower n = go (ltb n (256 ^ 1)) (ltb n (256 ^ 2))
  where
    test : Bool → Bool → ℕ → Bool → Bool
    test x y w z = leb (width (when x then 'U' else when y then 'u' else 'm')) w || not z

    go : (x y : Bool) → (test x y 1 x && (test x y 2 y && (test x y 4 (ltb n (256 ^ 4)) && true))) ≡ true
    go true y = refl
    go false true = refl
    go false false = refl

-- and no narrower one of the three does
pub smallest_least : (n mark : ℕ) → among small_marks mark ≡ true → n < 256 ^ width mark → width (smallest n) ≤ width mark
smallest_least n mark t h =
    let e : NoNarrower n (smallest n) mark ≡ true = among_passes (NoNarrower n (smallest n)) small_marks mark (no_narrower n) t in
    leb-true _ _ (sym (or-false _) ∙ (rw (lt-ltb _ _ h) at e))
