-- Text by shape, seen from each byte and the three before it. Assumes nothing.
use Prim.Native.Nat.{ℕ, ◌+◌, ◌≤◌, ◌<◌}
use mathlib.Core.Path.{◌≡◌, refl, ◌∙◌}
use mathlib.Core.Bool.{Bool, true, false, ◌&&◌, ◌||◌, not, beq, and-false, or-false}
use mathlib.Core.List.{List, [], ◌∷◌}
use native.Mathlib.Omega.{arith}
use native.Mathlib.Numerals.{add-one}
use lib.ListN.{length, get_or, drop, drop_of_length-le}
use lib.Seq.{drop-cons}
use lib.Dec.{leb}
use borrow.Author.Tests.{leb-true, leb-false, le-leb, lt-leb}
use Rattle.format.specs.Conditions.{when◌then◌else◌, between, all}
use Rattle.format.specs.Text.{shaped}
use Rattle.content.specs.Owed.{is_owed, can_stand}

-- how many are owed, by whether one is, a second and a third
count : Bool → Bool → Bool → ℕ
count one two three = when one then (when two then (when three then 3 else 2) else 1) else 0

-- how many bytes 80-BF are owed after the bytes a, b and c
pub owed : ℕ → ℕ → ℕ → ℕ
owed a b c = count (is_owed a b c) (leb 0xE0 c || leb 0xF0 b) (leb 0xF0 c)

-- while one is owed, the next byte is one of them
counted : (two three : Bool) (x : ℕ) (xs : List ℕ) → shaped (count true two three) (x ∷ xs) ≡ (between 0x80 0xBF x && shaped (count two three false) xs)
unfolding count when◌then◌else◌ shaped
counted true true x xs = refl
counted true false x xs = refl
counted false three x xs = refl

one_less : (b c x : ℕ) → x ≤ 0xBF → owed b c x ≡ count (leb 0xE0 c || leb 0xF0 b) (leb 0xF0 c) false
unfolding owed is_owed
one_less b c x h = simp (lt-leb 0xC0 x (omega arith), lt-leb 0xE0 x (omega arith), lt-leb 0xF0 x (omega arith))

-- where none is, the next byte leads
neither : (p q r : Bool) → ((p || q) || r) ≡ false → (p ≡ false) × (q ≡ false)
neither true q r e = (e, cc)
neither false true r e = (refl, e)
neither false false r e = (refl, refl)

anew : (a b c x : ℕ) → is_owed a b c ≡ false → owed b c x ≡ count (leb 0xC0 x) (leb 0xE0 x) (leb 0xF0 x)
unfolding owed is_owed
anew a b c x e =
    let f = neither (leb 0xC0 c) (leb 0xE0 b) (leb 0xF0 a) e in let g = leb-false 0xC0 c f.0 in let h = leb-false 0xE0 b f.1 in
    simp (lt-leb 0xE0 c (omega arith), lt-leb 0xF0 c (omega arith), lt-leb 0xF0 b (omega arith), or-false)

leads : (x : ℕ) (xs : List ℕ) → shaped 0 (x ∷ xs) ≡ ((leb x 0xF7 && beq false (between 0x80 0xBF x)) && shaped (count (leb 0xC0 x) (leb 0xE0 x) (leb 0xF0 x)) xs)
unfolding shaped count between when◌then◌else◌
leads x xs = go _ refl _ refl _ refl _ refl _ refl
  where
    go : (p : Bool) → leb x 0x7F ≡ p → (q : Bool) → leb x 0xBF ≡ q → (r : Bool) → leb x 0xDF ≡ r → (s : Bool) → leb x 0xEF ≡ s → (t : Bool) → leb x 0xF7 ≡ t
        → shaped 0 (x ∷ xs) ≡ ((leb x 0xF7 && beq false (between 0x80 0xBF x)) && shaped (count (leb 0xC0 x) (leb 0xE0 x) (leb 0xF0 x)) xs)
    go true e q f r g s h t k =
        let l = leb-true x 0x7F e in simp (e, le-leb x 0xF7 (omega arith), lt-leb 0x80 x (omega arith), lt-leb 0xC0 x (omega arith))
    go false e true f r g s h t k =
        let l = leb-false x 0x7F e in let m = leb-true x 0xBF f in
        simp (e, f, le-leb x 0xF7 (omega arith), le-leb 0x80 x (omega arith), lt-leb 0xC0 x (omega arith), lt-leb 0xE0 x (omega arith), lt-leb 0xF0 x (omega arith))
    go false e false f true g s h t k =
        let l = leb-false x 0xBF f in let m = leb-true x 0xDF g in
        simp (e, f, g, le-leb x 0xF7 (omega arith), le-leb 0x80 x (omega arith), le-leb 0xC0 x (omega arith), lt-leb 0xE0 x (omega arith))
    go false e false f false g true h t k =
        let l = leb-false x 0xDF g in let m = leb-true x 0xEF h in
        simp (e, f, g, h, le-leb x 0xF7 (omega arith), le-leb 0x80 x (omega arith), le-leb 0xC0 x (omega arith), le-leb 0xE0 x (omega arith), lt-leb 0xF0 x (omega arith))
    go false e false f false g false h true k =
        let l = leb-false x 0xEF h in
        simp (e, f, g, h, k, le-leb 0x80 x (omega arith), le-leb 0xC0 x (omega arith), le-leb 0xE0 x (omega arith), le-leb 0xF0 x (omega arith))
    go false e false f false g false h false k =
        let l = leb-false x 0xF7 k in
        simp (e, f, g, h, k, le-leb 0xC0 x (omega arith), le-leb 0xE0 x (omega arith), le-leb 0xF0 x (omega arith))

-- a byte more
module _ (a b c x : ℕ) (xs : List ℕ) where
  rest : is_owed a b c ≡ true → shaped (owed a b c) (x ∷ xs) ≡ (can_stand a b c x && shaped (owed b c x) xs)
  unfolding owed can_stand between count
  rest e = rw e (counted _ _ x xs ∙ go (leb 0x80 x) (leb x 0xBF) refl)
    where
      go : (p q : Bool) → leb x 0xBF ≡ q → ((p && q) && shaped (count (leb 0xE0 c || leb 0xF0 b) (leb 0xF0 c) false) xs) ≡ ((leb x 0xF7 && beq true (p && q)) && shaped (owed b c x) xs)
      go true true f = let h = leb-true _ _ f in rw (one_less b c x h, le-leb x 0xF7 (omega arith))
      go true false f = rw and-false
      go false q f = rw and-false

  fresh : is_owed a b c ≡ false → shaped (owed a b c) (x ∷ xs) ≡ (can_stand a b c x && shaped (owed b c x) xs)
  unfolding can_stand count when◌then◌else◌ owed
  fresh e = rw (anew a b c x e, e) (leads x xs)

  shaped_cons : shaped (owed a b c) (x ∷ xs) ≡ (can_stand a b c x && shaped (owed b c x) xs)
  shaped_cons = go (is_owed a b c) refl
    where
      go : (t : Bool) → is_owed a b c ≡ t → shaped (owed a b c) (x ∷ xs) ≡ (can_stand a b c x && shaped (owed b c x) xs)
      go true e = rest e
      go false e = fresh e

-- text from its first byte, byte by byte, and at its end
pub shaped_start : (s : List ℕ) → shaped 0 s ≡ shaped (owed 0 0 0) (drop 0 s)
unfolding owed is_owed count when◌then◌else◌
shaped_start s = refl

pub shaped_on : (s : List ℕ) (a b c i : ℕ) → i < length s → shaped (owed a b c) (drop i s) ≡ (can_stand a b c (get_or s i 0) && shaped (owed b c (get_or s i 0)) (drop (i + 1) s))
shaped_on s a b c i h = rw (add-one i, drop-cons s i 0) (shaped_cons a b c (get_or s i 0) _)

end_counted : (one two three : Bool) → shaped (count one two three) [] ≡ not one
unfolding count when◌then◌else◌ shaped
end_counted true true true = refl
end_counted true true false = refl
end_counted true false three = refl
end_counted false two three = refl

pub shaped_end : (s : List ℕ) (a b c i : ℕ) → length s ≤ i → shaped (owed a b c) (drop i s) ≡ not (is_owed a b c)
unfolding owed
shaped_end s a b c i h = rw (drop_of_length-le s h) (end_counted (is_owed a b c) _ _)

-- chars are text
both : (p q : Bool) → (p && q) ≡ true → (p ≡ true) × (q ≡ true)
both true q e = (refl, e)
both false q e = (e, cc)

pub chars_shaped : (s : List ℕ) → all (λ b. leb b 127) s ≡ true → shaped 0 s ≡ true
unfolding shaped all when◌then◌else◌
chars_shaped [] e = refl
chars_shaped (b ∷ bs) e = let f = both (leb b 127) (all (λ b. leb b 127) bs) e in rw f.0 (chars_shaped bs f.1)
