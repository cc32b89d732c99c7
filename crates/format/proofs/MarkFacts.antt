-- Facts about marks: a test that antt computes over a list of marks holds of every mark among them. Assumes nothing.
use Prim.Native.Nat.{ℕ, ◌≤◌, ◌<◌}
use mathlib.Core.Path.{◌≡◌, refl, subst, sym, ◌∙◌}
use mathlib.Core.Bool.{Bool, true, false, ◌&&◌, ◌||◌, or-false, false≢true}
use mathlib.Core.List.{List, [], ◌∷◌}
use native.Mathlib.Omega.{arith}
use lib.Dec.{eqb, ltb}
use borrow.Author.Tests.{eqb-true, ltb-true}
use Rattle.format.specs.Conditions.{when◌then◌else◌, among, all}
use Rattle.format.specs.Marks.{integers, is_integer, signed_integers, is_signed, types, is_type, is_plain_leaf, is_leaf, width, letter_of, 'B', 'C', 'D', 'I', 'L', 'M', 'S', 'T', 'U', 'Z', 'd', 'h', 'i', 'l', 'm', 'u'}

pub among_passes : (p : ℕ → Bool) (l : List ℕ) (x : ℕ) → all p l ≡ true → among l x ≡ true → p x ≡ true
unfolding all among
among_passes p [] x a h = absurd (false≢true h)
among_passes p (y ∷ l) x a h = go (p y) (eqb x y) refl refl a h (among_passes p l x)
  where
    go : (u v : Bool) → p y ≡ u → eqb x y ≡ v → (u && all p l) ≡ true → (v || among l x) ≡ true
        → (all p l ≡ true → among l x ≡ true → p x ≡ true) → p x ≡ true
    go false v e f a h rest = absurd (false≢true a)
    go true true e f a h rest = subst (λ k. p k ≡ true) (sym (eqb-true x y f)) e
    go true false e f a h rest = rest a h

-- a type's mark has bytes
pub type_wide : (mark : ℕ) → is_type mark ≡ true → 0 < width mark
unfolding is_type types integers all width among when◌then◌else◌
type_wide mark h = ltb-true 0 (width mark) (among_passes (λ k. ltb 0 (width k)) types mark refl h)

-- an integer's mark is a type's, and so has bytes
pub integer_wide : (mark : ℕ) → is_integer mark ≡ true → 0 < width mark
unfolding is_type types is_integer integers all among
integer_wide mark h = type_wide mark (among_passes is_type integers mark refl h)

-- a signed integer's mark is an integer's
pub signed_integer : (mark : ℕ) → is_signed mark ≡ true → is_integer mark ≡ true
unfolding is_signed signed_integers is_integer integers all among
signed_integer mark h = among_passes is_integer signed_integers mark refl h

widest : (a b c d : Bool) → (when a then 1 else when b then 2 else when c then 4 else when d then 8 else 0) ≤ 8
unfolding when◌then◌else◌
widest true b c d = omega arith
widest false true c d = omega arith
widest false false true d = omega arith
widest false false false true = omega arith
widest false false false false = omega arith

-- a mark has eight bytes at most
pub width_few : (mark : ℕ) → width mark ≤ 8
unfolding width
width_few mark = widest (among _ mark) (among _ mark) (among _ mark) (among _ mark)

-- what is not among marks is told so
not_among : (l : List ℕ) (x : ℕ) → (among l x ≡ true → ⊥) → among l x ≡ false
not_among l x c = go (among l x) refl
  where
    go : (b : Bool) → among l x ≡ b → among l x ≡ false
    go true e = absurd (c e)
    go false e = e

-- a word stands for one of some marks exactly if it is that mark
pub letter_among : (l : List ℕ) (word : ℕ) → all (ltb 0) l ≡ true → all (λ k. ltb k 256) l ≡ true → among l (letter_of word) ≡ among l word
unfolding letter_of when◌then◌else◌
letter_among l word some few = go (ltb word 256) refl
  where
    go : (b : Bool) → ltb word 256 ≡ b → among l (when b then word else 0) ≡ among l word
    go true e = refl
    go false e =
        not_among l 0 (λ h. false≢true (among_passes (ltb 0) l 0 some h))
        ∙ sym (not_among l word (λ h. false≢true (sym e ∙ among_passes (λ k. ltb k 256) l word few h)))

-- in each of the lists
pub letter_type : (word : ℕ) → is_type (letter_of word) ≡ is_type word
unfolding is_type types integers all
letter_type word = letter_among types word refl refl

pub letter_integer : (word : ℕ) → is_integer (letter_of word) ≡ is_integer word
unfolding is_integer integers all
letter_integer word = letter_among integers word refl refl

pub letter_leaf : (word : ℕ) → is_leaf (letter_of word) ≡ is_leaf word
unfolding is_leaf is_plain_leaf types integers all among
letter_leaf word =
    let e : eqb (letter_of word) 'S' ≡ eqb word 'S' = sym (or-false _) ∙ letter_among ('S' ∷ []) word refl refl ∙ or-false _ in
    rw (letter_among ('T' ∷ 'Z' ∷ types) word refl refl, e) refl

-- and so it has the mark's bytes
pub letter_width : (word : ℕ) → width (letter_of word) ≡ width word
unfolding width all
letter_width word =
    rw (
      letter_among ('i' ∷ 'U' ∷ 'C' ∷ 'B' ∷ []) word refl refl,
      letter_among ('I' ∷ 'u' ∷ 'h' ∷ []) word refl refl,
      letter_among ('l' ∷ 'm' ∷ 'd' ∷ []) word refl refl,
      letter_among ('L' ∷ 'M' ∷ 'D' ∷ []) word refl refl,
    ) refl
