-- Rows laid out in words, and read back from them. Assumes nothing.
use Prim.Native.Nat.{ℕ, zero, suc, ◌+◌, ◌-◌, ◌*◌, ◌≤◌}
use mathlib.Core.Path.{◌≡◌, refl, ap, ◌∙◌}
use mathlib.Core.List.{List, [], ◌∷◌, ◌++◌, append_assoc, append-nil}
use native.Mathlib.Omega.{arith}
use lib.ListN.{length, get_or, length-append}
use lib.Seq.{get_or-append-add}
use Rattle.format.specs.Rows.{Row, row_words, layout, word, row_at, words_of, zeros}

pub length-layout : (r : Row) → length (layout r) ≡ row_words
unfolding layout
length-layout r = refl

pub length_words : (rs : List Row) → length (words_of rs) ≡ length rs * row_words
unfolding words_of
length_words [] = refl
length_words (r ∷ rs) = length-append (layout r) (words_of rs) ∙ omega (arith, length-layout r, length_words rs)

-- after a row, the others
row_after : (r : Row) (ws : List ℕ) (row : ℕ) → row_at (layout r ++ ws) (suc row) ≡ row_at ws row
unfolding row_at word
row_after r ws row = λ i. record {
  kind = there 0 i;
  mark = there 1 i;
  first = there 2 i;
  payload = there 3 i;
  extent = there 4 i;
  count = there 5 i;
  link = there 6 i;
  order = there 7 i;
  parent = there 8 i;
  depth = there 9 i;
}
  where
    there : (k : ℕ) → get_or (layout r ++ ws) (suc row * row_words + k) 0 ≡ get_or ws (row * row_words + k) 0
    there k =
        let e : suc row * row_words + k ≡ length (layout r) + (row * row_words + k) = omega (arith, length-layout r) in
        rw e (get_or-append-add (layout r) ws (row * row_words + k) 0)

-- after some rows
rows_after : (rs qs : List Row) (ws : List ℕ) (row : ℕ) → row_at (words_of (rs ++ qs) ++ ws) (length rs + row) ≡ row_at (words_of qs ++ ws) row
unfolding words_of
rows_after [] qs ws row = ap (row_at (words_of qs ++ ws)) (omega arith)
rows_after (r ∷ rs) qs ws row =
    let e : suc (length rs) + row ≡ suc (length rs + row) = omega arith in
    rw (e, append_assoc (layout r) (words_of (rs ++ qs)) ws) (row_after r (words_of (rs ++ qs) ++ ws) (length rs + row) ∙ rows_after rs qs ws row)

row_here : (r : Row) (rs : List Row) (ws : List ℕ) → row_at (words_of (r ∷ rs) ++ ws) 0 ≡ r
unfolding words_of layout row_at word
row_here r rs ws = refl

-- a row stands in its words
pub row_there : (before after : List Row) (r : Row) (ws : List ℕ) (row : ℕ) → length before ≡ row → row_at (words_of (before ++ r ∷ after) ++ ws) row ≡ r
row_there before after r ws row e =
    let q : row ≡ length before + 0 = omega arith in
    rw q (rows_after before (r ∷ after) ws 0 ∙ row_here r after ws)

-- and past all rows there are the other words
pub row_past : (rs : List Row) (ws : List ℕ) (row : ℕ) → length rs ≤ row → row_at (words_of rs ++ ws) row ≡ row_at ws (row - length rs)
unfolding words_of
row_past rs ws row h =
    let q : length rs + (row - length rs) ≡ row = omega arith in
    rw (append-nil rs, q) at (rows_after rs [] ws (row - length rs))

-- words that are zero have no kind
pub zero_kind : (n row : ℕ) → (row_at (zeros n) row).kind ≡ 0
unfolding row_at word
zero_kind n row = go n (row * row_words + 0)
  where
    go : (n i : ℕ) → ◌≡◌ {A = ℕ} (get_or (zeros n) i 0) 0
    go zero i = refl
    go (suc n) zero = refl
    go (suc n) (suc i) = go n i
