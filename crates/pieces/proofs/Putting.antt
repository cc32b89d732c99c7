-- Bytes put one after another: in pieces, byte by byte, and digit by digit. Assumes nothing.
use Prim.Native.Nat.{ℕ, zero, suc, ◌+◌, ◌/◌, ◌%◌, ◌≤◌, ◌<◌}
use mathlib.Core.Path.{◌≡◌, refl, sym, ap, ◌∙◌}
use mathlib.Core.Bool.{Bool, true, false}
use mathlib.Core.List.{List, [], ◌∷◌, ◌++◌}
use native.Mathlib.Omega.{arith}
use native.Mathlib.Numerals.{add-one}
use lib.ListN.{length, set, take, drop, get_or, length-set, length-take, length-append}
use lib.Dec.{eqb}
use borrow.Author.Tests.{lt-ltb, le-ltb}
use lib.Seq.{sets, length-sets, length-take-le, take_all, take-suc}
use Rattle.format.specs.Conditions.{when◌then◌else◌, among}
use Rattle.format.specs.Marks.{width, 'U', 'u', 'm', ']'}
use Rattle.format.specs.Tokens.{plain_count, first_slowest}
use Rattle.format.specs.Bytes.{bytes}
use Rattle.format.specs.Integers.{smallest}
use Rattle.format.specs.Extensions.{id_bytes}
use Rattle.format.specs.HouseForm.{digits, small_integer}
use Rattle.format.proofs.MarkFacts.{width_few}
use Rattle.format.proofs.Little.{length_digits}
use Rattle.std.specs.Int.{to_le_bytes, w32}
use Rattle.rows.proofs.Overlay.{sets_append}
use Rattle.pieces.specs.Puts.{Puts}
use Rattle.pieces.specs.Shapes.{shape_end}

-- nothing
pub puts_none : (l : List ℕ) (at : ℕ) → Puts l l at at []
puts_none l at = record { reach = omega arith; kept = refl; there = λ h. refl }

-- what has no room
pub puts_over : (l bs : List ℕ) (at next : ℕ) → next ≡ at + length bs → length l < next → Puts l l at next bs
puts_over l bs at next e h = record { reach = e; kept = refl; there = λ k. absurd (omega arith) }

-- one byte
pub puts_one : (l : List ℕ) (at b : ℕ) → Puts l (set l at b) at (at + 1) (b ∷ [])
puts_one l at b = record { reach = refl; kept = length-set l at b; there = λ h. refl }

-- in two pieces
pub puts_append : {l l' l'' : List ℕ} {at mid next : ℕ} (x y : List ℕ) → Puts l l' at mid x → Puts l' l'' mid next y → Puts l l'' at next (x ++ y)
puts_append {l} {l'} {l''} {at} {mid} {next} x y p q =
    let e = p.reach in
    let f = q.reach in
    record {
      reach = omega (arith, length-append x y);
      kept = q.kept ∙ p.kept;
      there = λ h.
          let k = p.kept in
          let a : mid ≤ length l = omega arith in
          q.there (omega arith) ∙ ap (λ s. sets s mid y) (p.there a) ∙ ap (λ j. sets (sets l at x) j y) e ∙ sets_append x y l at;
    }

-- ---- byte by byte

-- one byte more of a part
pub part_on : (l part : List ℕ) (at i : ℕ) → i < length part → set (sets l at (take i part)) (at + i) (get_or part i 0) ≡ sets l at (take (i + 1) part)
part_on l part at i h =
    let e : length (take i part) ≡ i = length-take-le i part (omega arith) in
    let s = sets_append (take i part) (get_or part i 0 ∷ []) l at in
    rw (add-one i, take-suc part i 0 h) (ap (λ j. set (sets l at (take i part)) j (get_or part i 0)) (omega arith) ∙ s)

-- all of it
pub part_end : (l l' part : List ℕ) (at next i : ℕ) → next ≡ at + length part → i ≤ length part → length part ≤ i → l' ≡ sets l at (take i part) → Puts l l' at next part
part_end l l' part at next i e low high q =
    let f = q ∙ ap (sets l at) (take_all i part high) in
    record { reach = e; kept = ap length f ∙ length-sets l at part; there = λ h. f }

-- ---- a mark and its number

-- the mark that holds a number
pub in_one : (n : ℕ) → n < 256 → smallest n ≡ 'U'
unfolding smallest width among when◌then◌else◌
in_one n h = rw (lt-ltb n 256 h) refl

pub in_two : (n : ℕ) → 256 ≤ n → n < 65536 → smallest n ≡ 'u'
unfolding smallest width among when◌then◌else◌
in_two n h k = rw (le-ltb n 256 h, lt-ltb n 65536 k) refl

pub in_four : (n : ℕ) → 65536 ≤ n → smallest n ≡ 'm'
unfolding smallest width among when◌then◌else◌
in_four n h = rw (le-ltb n 256 (omega arith), le-ltb n 65536 h) refl

-- what goes with these marks is four bytes at most
pub few_in_one : width 'U' ≤ 4
unfolding width among when◌then◌else◌
few_in_one = omega arith

pub few_in_two : width 'u' ≤ 4
unfolding width among when◌then◌else◌
few_in_two = omega arith

pub few_in_four : width 'm' ≤ 4
unfolding width among when◌then◌else◌
few_in_four = omega arith

-- the bytes of a number are its digits, as many of them as are asked for
module _ (n : ℕ) (bytes : List ℕ) (low : bytes ≡ to_le_bytes w32 n) where
  pub low_digits : (wide : ℕ) → wide ≤ 4 → take wide bytes ≡ digits wide n
  unfolding digits
  low_digits zero h = refl
  low_digits (suc zero) h = rw low
  low_digits (suc (suc zero)) h = rw low
  low_digits (suc (suc (suc zero))) h =
      let third : n / 65536 % 256 ≡ n / 256 / 256 % 256 = omega arith in
      rw (low, third)
  low_digits (suc (suc (suc (suc zero)))) h =
      let third : n / 65536 % 256 ≡ n / 256 / 256 % 256 = omega arith in
      let fourth : n / 16777216 % 256 ≡ n / 256 / 256 / 256 % 256 = omega arith in
      rw (low, third, fourth)
  low_digits (suc (suc (suc (suc (suc k))))) h = absurd (omega arith)

  -- those that are put under `U`, `u` and `m`
  pub one_digit : take 1 bytes ≡ digits (width 'U') n
  unfolding width among when◌then◌else◌
  one_digit = low_digits 1 (omega arith)

  pub two_digits : take 2 bytes ≡ digits (width 'u') n
  unfolding width among when◌then◌else◌
  two_digits = low_digits 2 (omega arith)

  pub four_digits : bytes ≡ digits (width 'm') n
  unfolding width among when◌then◌else◌
  four_digits =
      let few : length bytes ≤ 4 = rw low (omega arith) in
      sym (take_all 4 bytes few) ∙ low_digits 4 (omega arith)

-- a number under the smallest mark
pub integer_puts : {l l' : List ℕ} {at next : ℕ} (n mark : ℕ) → smallest n ≡ mark → Puts l l' at next (mark ∷ digits (width mark) n) → Puts l l' at next (small_integer n)
unfolding small_integer
integer_puts n mark e p = rw e p

-- nine bytes at most
pub integer_few : (n : ℕ) → length (small_integer n) ≤ 9
unfolding small_integer
integer_few n = let e = length_digits (width (smallest n)) n in omega (arith, width_few (smallest n))

-- an id has nine bytes at most
pub id_few : (m : List ℕ) (first : ℕ) → length (id_bytes m first) ≤ 9
unfolding id_bytes bytes
id_few m first =
    let w = width (get_or m (first + 1) 0) in
    omega (arith, length-take w (drop (first + 2) m), width_few (get_or m (first + 1) 0))

-- a shape ends in two bytes at most
pub end_few : (order : ℕ) → length (shape_end order) ≤ 2
unfolding shape_end when◌then◌else◌
end_few order = go (eqb order plain_count) (eqb order first_slowest)
  where
    go : (b c : Bool) → length (when b then [] else when c then ']' ∷ [] else ']' ∷ ']' ∷ []) ≤ 2
    go true c = omega arith
    go false true = omega arith
    go false false = omega arith
