-- Down a column: a stop, a wrong value, a right one; and columns in which nothing is wrong. Assumes nothing.
use Prim.Native.Nat.{ℕ, zero, suc, ◌+◌, ◌-◌, ◌*◌, ◌≤◌, ◌<◌, min}
use mathlib.Core.Path.{◌≡◌, refl, sym}
use mathlib.Core.Bool.{Bool, true, false, false≢true}
use mathlib.Core.List.{List, []}
use native.Mathlib.Omega.{arith}
use native.Mathlib.Nat.{suc-mul}
use native.Mathlib.Numerals.{sub-one}
use borrow.Author.Tests.{ne_eqb}
use lib.Dec.{eqb}
use Rattle.format.specs.Conditions.{when◌then◌else◌, all}
use Rattle.format.specs.Marks.{'C', 'H', 'S', 'T'}
use Rattle.format.specs.Text.{is_text, shaped}
use Rattle.format.specs.JsonNumber.{is_number}
use Rattle.format.specs.Bytes.{bytes}
use Rattle.format.specs.Content.{is_content}
use Rattle.columns.specs.Least.{nowhere, wrong_at, in_column}
use Rattle.columns.proofs.Tiles.{wrong_from}
use Rattle.columns.proofs.LeafByLeaf.{column_most}

-- the last value is inside the message, so this one is, and so the next
pub last_here : (n p s l : ℕ) → 0 < n → p + n * s ≤ l + s → p ≤ l
last_here zero p s l h k = absurd (omega arith)
last_here (suc n) p s l h k = omega (arith, suc-mul n s)

pub last_next : (n p s l : ℕ) → 0 < n → p + n * s ≤ l + s → p + s + (n - 1) * s ≤ l + s
last_next zero p s l h k = absurd (omega arith)
last_next (suc n) p s l h k = simp (sub-one) (omega (arith, suc-mul n s))

module _ (m : List ℕ) (mark w stride : ℕ) where
  column_from : (b n place : ℕ) → b ≤ nowhere → b ≤ place → b ≤ in_column m mark w stride n place
  unfolding in_column
  column_from b zero place h k = h
  column_from b (suc n) place h k =
      let x = wrong_from m 0 b mark w place h k in
      let y = column_from b n (place + stride) h (omega arith) in omega arith

  pub column_stop : (b n place : ℕ) → b ≤ nowhere → b ≤ place → b ≡ min b (in_column m mark w stride n place)
  column_stop b n place h k = let x = column_from b n place h k in omega arith

  pub column_wrong : (b n place : ℕ) → 0 < n → b ≤ nowhere → place < b → is_content mark (bytes m place w) ≡ false → place ≡ min b (in_column m mark w stride n place)
  unfolding in_column wrong_at when◌then◌else◌
  column_wrong b zero place z h k e = absurd (omega arith)
  column_wrong b (suc n) place z h k e = rw e (let x = column_from place n (place + stride) (omega arith) (omega arith) in omega arith)

  pub column_right : (n place : ℕ) → 0 < n → is_content mark (bytes m place w) ≡ true → in_column m mark w stride (n - 1) (place + stride) ≡ in_column m mark w stride n place
  unfolding in_column wrong_at when◌then◌else◌
  column_right zero place z e = absurd (omega arith)
  column_right (suc n) place z e = rw e (simp (sub-one) (let x = column_most m mark w stride n (place + stride) in omega arith))

  pub column_end : (b n place : ℕ) → b ≤ nowhere → n ≤ 0 → b ≡ min b (in_column m mark w stride n place)
  unfolding in_column
  column_end b zero place h z = omega arith
  column_end b (suc n) place h z = absurd (omega arith)

  -- nothing can be wrong
  column_clear : ((place : ℕ) → is_content mark (bytes m place w) ≡ true) → (n place : ℕ) → in_column m mark w stride n place ≡ nowhere
  unfolding in_column wrong_at when◌then◌else◌
  column_clear e zero place = refl
  column_clear e (suc n) place = rw (e place, column_clear e n (place + stride)) (omega arith)

  pub column_skipped : (b n place : ℕ) → b ≤ nowhere → ((bs : List ℕ) → is_content mark bs ≡ true) → b ≡ min b (in_column m mark w stride n place)
  column_skipped b n place h e = rw (column_clear (λ p. e (bytes m p w)) n place) (omega arith)

-- no bytes are right under every mark but `H`
none_right : (mark : ℕ) → (mark ≡ 'H' → ⊥) → is_content mark [] ≡ true
unfolding is_content when◌then◌else◌ all is_text shaped
none_right mark h = go (eqb mark 'S') (eqb mark 'H') (eqb mark 'C') (eqb mark 'T') (ne_eqb mark 'H' h)
  where
    go : (s h c t : Bool) → h ≡ false → (when s then true else when h then is_number [] else when c then true else when t then true else true) ≡ true
    go true h c t e = refl
    go false true c t e = absurd (false≢true (sym e))
    go false false true t e = refl
    go false false false true e = refl
    go false false false false e = refl

pub column_empty : (m : List ℕ) (mark w stride b n place : ℕ) → b ≤ nowhere → (mark ≡ 'H' → ⊥) → w ≡ 0 → b ≡ min b (in_column m mark w stride n place)
unfolding bytes
column_empty m mark w stride b n place h k e =
    rw (e, column_clear m mark 0 stride (λ p. none_right mark k) n place) (omega arith)

-- under other marks any bytes are right
pub unchecked : (mark : ℕ) → (mark ≡ 'S' → ⊥) → (mark ≡ 'C' → ⊥) → (mark ≡ 'T' → ⊥) → (mark ≡ 'H' → ⊥) → (bs : List ℕ) → is_content mark bs ≡ true
unfolding is_content when◌then◌else◌
unchecked mark s c t h bs = simp (ne_eqb _ _ s, ne_eqb _ _ c, ne_eqb _ _ t, ne_eqb _ _ h)
