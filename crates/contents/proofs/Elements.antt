-- The content of a packed array, an element at a time. Assumes nothing.
use Prim.Native.Nat.{ℕ, zero, suc, ◌+◌, ◌-◌, ◌*◌, ◌≤◌, ◌<◌}
use mathlib.Core.Path.{◌≡◌, refl, ap, ◌∙◌}
use mathlib.Core.Bool.{true, false, not, and-true}
use mathlib.Core.List.{List, [], ◌∷◌}
use native.Mathlib.Omega.{arith}
use native.Mathlib.Nat.{mul-one}
use native.Mathlib.Numerals.{add-one}
use lib.ListN.{length, get_or}
use lib.Seq.{drop-cons}
use lib.Dec.{leb, eqb}
use borrow.Author.Tests.{le-leb, lt-leb, ne_eqb, not-true}
use Rattle.format.specs.Conditions.{when◌then◌else◌, among, all}
use Rattle.format.specs.Outcome.{Outcome, fault, done, ◌>>=◌, guard}
use Rattle.format.specs.Refusals.{wrong_content}
use Rattle.format.specs.Marks.{integers, types, is_type, width, 'C', 'H', 'S', 'T'}
use Rattle.format.specs.Indexes.{count_from}
use Rattle.format.specs.Storage.{end_to_end, elements}
use Rattle.format.specs.Bytes.{bytes}
use Rattle.format.specs.Content.{is_content, content, contents}
use Rattle.format.proofs.MarkFacts.{among_passes}

-- a letter that is none of the types
not_letter : (x mark : ℕ) → all (λ k. not (eqb k x)) types ≡ true → is_type mark ≡ true → eqb mark x ≡ false
unfolding is_type
not_letter x mark a h = not-true (eqb mark x) (among_passes (λ k. not (eqb k x)) types mark a h)

-- under a type that is no char, any bytes are right
any_bytes : (mark : ℕ) (bs : List ℕ) → is_type mark ≡ true → (mark ≡ 'C' → ⊥) → is_content mark bs ≡ true
unfolding is_content when◌then◌else◌ types integers all
any_bytes mark bs h c = rw (not_letter 'S' mark refl h, not_letter 'H' mark refl h, ne_eqb mark 'C' c, not_letter 'T' mark refl h)

module _ (m : List ℕ) (start row mark : ℕ) where
  -- the elements from the k-th on, of which there are j, the first of them at an offset
  unfoldable pub from : ℕ → ℕ → ℕ → Outcome (Unit {0})
  from k j at = contents m start (end_to_end (count_from k j) (width mark) (λ a at. record { leaf_row = row; element = a; mark = mark; offset = at; wide = width mark } ∷ []) at)

  right : (k j at : ℕ) → is_content mark (bytes m (start + at) (width mark)) ≡ true → from k (suc j) at ≡ from (suc k) j (at + width mark)
  unfolding from end_to_end count_from contents content guard ◌>>=◌
  right k j at e = rw e

  wrong : (k j at : ℕ) → is_content mark (bytes m (start + at) (width mark)) ≡ false → from k (suc j) at ≡ fault wrong_content (start + at)
  unfolding from end_to_end count_from contents content guard ◌>>=◌
  wrong k j at e = rw e

  pub from_none : (k at : ℕ) → from k 0 at ≡ done tt
  unfolding from end_to_end count_from contents
  from_none k at = refl

  pub from_all : (n : ℕ) → from 0 n 0 ≡ contents m start (elements row mark (count_from 0 n))
  unfolding from elements
  from_all n = refl

  -- of a type that is no char
  pub from_any : is_type mark ≡ true → (mark ≡ 'C' → ⊥) → (j k at : ℕ) → from k j at ≡ done tt
  from_any h c zero k at = from_none k at
  from_any h c (suc j) k at = right k j at (any_bytes mark _ h c) ∙ from_any h c j (suc k) (at + width mark)

-- chars: one byte each
module _ (m : List ℕ) (start row n : ℕ) where
  char : (at : ℕ) → start + at < length m → is_content 'C' (bytes m (start + at) (width 'C')) ≡ leb (get_or m (start + at) 0) 127
  unfolding is_content bytes width all among when◌then◌else◌
  char at h = rw (drop-cons m (start + at) 0) (and-true (leb (get_or m (start + at) 0) 127))

  char_wide : width 'C' ≡ 1
  unfolding width among when◌then◌else◌
  char_wide = refl

  turn : (i : ℕ) → i < n → n - i ≡ suc (n - (i + 1))
  turn i h = omega arith

  pub char_on : (i : ℕ) → i < n → start + i < length m → get_or m (start + i) 0 ≤ 127 → from m start row 'C' i (n - i) i ≡ from m start row 'C' (i + 1) (n - (i + 1)) (i + 1)
  char_on i h l e =
      ap (λ j. from m start row 'C' i j i) (turn i h)
      ∙ right m start row 'C' i (n - (i + 1)) i (char i l ∙ le-leb _ _ e)
      ∙ rw (char_wide, add-one i)

  pub char_off : (i : ℕ) → i < n → start + i < length m → 127 < get_or m (start + i) 0 → from m start row 'C' i (n - i) i ≡ fault wrong_content (start + i)
  char_off i h l e = ap (λ j. from m start row 'C' i j i) (turn i h) ∙ wrong m start row 'C' i (n - (i + 1)) i (char i l ∙ lt-leb _ _ e)

pub chars_fit : (mark start n end : ℕ) → mark ≡ 'C' → start + n * width mark ≤ end → start + n ≤ end
unfolding width among when◌then◌else◌
chars_fit mark start n end e h = let k = rw (e, mul-one n) at h in k
