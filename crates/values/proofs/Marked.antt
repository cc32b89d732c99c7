-- The marks of scalars: a byte each, and the numbers of the bytes that go with them. Assumes nothing.
use Prim.Native.Nat.{ℕ, ◌^◌, ◌≤◌, ◌<◌}
use mathlib.Core.Path.{◌≡◌, refl, sym, ap, ◌∙◌}
use mathlib.Core.Bool.{Bool, true, false, ◌&&◌, false≢true}
use mathlib.Core.List.{List, ◌∷◌}
use native.Mathlib.Omega.{arith}
use native.Mathlib.Nat.{lt_of_lt_of_le, pow-le-pow_right}
use lib.ListN.{length}
use lib.Seq.{take-length}
use lib.Dec.{ltb, eqb}
use borrow.Author.Tests.{eqb-true}
use Rattle.format.specs.Conditions.{when◌then◌else◌, all, among}
use Rattle.format.specs.Marks.{integers, signed_integers, is_signed, types, is_scalar, width, leaf_width, letter_of, 'F', 'T', 'Z'}
use Rattle.format.specs.Tokens.{Kind, leaf, is_kind}
use Rattle.format.specs.Bytes.{little, bytes}
use Rattle.format.proofs.MarkFacts.{among_passes, letter_among, width_few}
use Rattle.format.proofs.Little.{Small, little_bound}
use Rattle.scan.specs.Numbers.{little_at}
use Rattle.scan.proofs.Digits.{all_there}
use Rattle.values.specs.Due.{due}

-- a word stands for a scalar's mark exactly if it is that mark
pub letter_scalar : (word : ℕ) → is_scalar (letter_of word) ≡ is_scalar word
unfolding is_scalar types integers all
letter_scalar word = letter_among ('Z' ∷ 'T' ∷ 'F' ∷ types) word refl refl

pub letter_is : (word : ℕ) → is_scalar word ≡ true → letter_of word ≡ word
unfolding is_scalar types integers all among letter_of when◌then◌else◌
letter_is word e = rw (among_passes (λ x. ltb x 256) ('Z' ∷ 'T' ∷ 'F' ∷ types) word refl e)

-- in a record a signed integer is as wide as ever
pub signed_wide : (mark : ℕ) → is_signed mark ≡ true → leaf_width mark ≡ width mark
unfolding is_signed signed_integers all among width leaf_width when◌then◌else◌
signed_wide mark e = eqb-true (leaf_width mark) (width mark) (among_passes (λ x. eqb (leaf_width x) (width x)) signed_integers mark refl e)

-- what a mark asks for in a token of any kind is what it asks for in a record, or less
due_least : (kind : Kind) (mark : ℕ) → due kind mark ≤ leaf_width mark
unfolding due leaf_width width among when◌then◌else◌
due_least kind mark = go (is_kind leaf kind) (eqb mark 'T') refl
  where
    go : (a b : Bool) → eqb mark 'T' ≡ b → (when a then (when b then 1 else width mark) else width mark) ≤ (when b then 1 else width mark)
    go true b e = omega arith
    go false true e = rw (eqb-true mark 'T' e) (omega arith)
    go false false e = omega arith

-- a mark and a width that were tested
pub marked : (kind : Kind) (mark wide : ℕ) → (is_scalar mark && eqb wide (due kind mark)) ≡ true → (is_scalar mark ≡ true) × (wide ≤ leaf_width mark)
marked kind mark wide e = go (is_scalar mark) (eqb wide (due kind mark)) refl e
  where
    go : (a b : Bool) → eqb wide (due kind mark) ≡ b → (a && b) ≡ true → (a ≡ true) × (wide ≤ leaf_width mark)
    go true true w e = (refl, let q = eqb-true wide (due kind mark) w in omega (arith, due_least kind mark))
    go true false w e = absurd (false≢true e)
    go false b w e = absurd (false≢true e)

-- eight bytes at most
leaf_few : (mark : ℕ) → leaf_width mark ≤ 8
unfolding leaf_width when◌then◌else◌
leaf_few mark = go (eqb mark 'T')
  where
    go : (b : Bool) → (when b then 1 else width mark) ≤ 8
    go true = omega arith
    go false = width_few mark

-- the number of bytes that are no more than go with their mark
module _ (mark : ℕ) (bs : List ℕ) (n : ℕ) (is : n ≡ little_at bs 0 (length bs)) (fit : length bs ≤ leaf_width mark) where
  all_read : n ≡ little (bytes bs 0 (length bs))
  all_read = is ∙ sym (all_there bs 0 (length bs) (omega (arith, leaf_few mark)) (omega arith))

  pub number_is : n ≡ little bs
  unfolding bytes
  number_is = all_read ∙ ap little (take-length bs)

  pub number_under : Small bs → (w : ℕ) → leaf_width mark ≤ w → n < 256 ^ w
  number_under small w h =
      rw all_read (lt_of_lt_of_le (little_bound bs 0 (length bs) small) (pow-le-pow_right {n = 256} (omega arith) (omega arith)))
