-- Rows stored one after another: in any order, one run after another, and then zeros. Assumes nothing.
use mathlib.Core.Path.{◌≡◌, refl, ap, ◌∙◌}
use mathlib.Core.Bool.{Bool, true, false}
use mathlib.Core.List.{List, [], ◌∷◌, ◌++◌}
use Prim.Native.Nat.{ℕ, suc, ◌+◌, ◌-◌, ◌*◌, ◌/◌, ◌<◌, ◌≤◌}
use native.Mathlib.Omega.{arith}
use native.Mathlib.Nat.{zero-add}
use lib.ListN.{length, set, drop}
use lib.Seq.{sets, set_comm, length-sets, sets-eq, take-append_seam}
use lib.Dec.{ltb}
use borrow.Author.Tests.{lt-ltb}
use Rattle.format.specs.Conditions.{when◌then◌else◌}
use Rattle.format.specs.Rows.{Row, row_words, layout, rows_in, words_of, zeros, filled}
use Rattle.format.proofs.RowWords.{length-layout, length_words}
use Rattle.rows.specs.Clearing.{cleared_from}
use Rattle.rows.specs.Row.{store}
use Rattle.rows.specs.Overlay.{lay}

-- ---- runs of stores at other places

set-sets : (b l : List ℕ) (i j x : ℕ) → j < i → set (sets l i b) j x ≡ sets (set l j x) i b
set-sets [] l i j x h = refl
set-sets (y ∷ b) l i j x h =
    set-sets b (set l i y) (suc i) j x (omega arith) ∙ ap (λ t. sets t (suc i) b) (set_comm l i j y x (omega arith))

sets_comm : (a b l : List ℕ) (i j : ℕ) → i + length a ≤ j → sets (sets l j b) i a ≡ sets (sets l i a) j b
sets_comm [] b l i j h = refl
sets_comm (x ∷ a) b l i j h =
    ap (λ t. sets t (suc i) a) (set-sets b l j i x (omega arith)) ∙ sets_comm a b (set l i x) (suc i) j (omega arith)

-- one run of stores after another
pub sets_append : (a b l : List ℕ) (i : ℕ) → sets (sets l i a) (i + length a) b ≡ sets l i (a ++ b)
sets_append [] b l i = ap (λ j. sets l j b) (omega arith)
sets_append (x ∷ a) b l i =
    ap (λ j. sets (sets (set l i x) (suc i) a) j b) (omega arith) ∙ sets_append a b (set l i x) (suc i)

-- ---- one row, stored or not

put : Bool → List ℕ → ℕ → Row → List ℕ
put b ws i r = when b then sets ws (i * row_words) (layout r) else ws

length-put : (b : Bool) (ws : List ℕ) (i : ℕ) (r : Row) → length (put b ws i r) ≡ length ws
unfolding put when◌then◌else◌
length-put true ws i r = length-sets ws (i * row_words) (layout r)
length-put false ws i r = refl

pub length-store : (ws : List ℕ) (i : ℕ) (r : Row) → length (store ws i r) ≡ length ws
unfolding store put
length-store ws i r = length-put (ltb i (rows_in ws)) ws i r

put_comm : (b c : Bool) (ws : List ℕ) (i j : ℕ) (r s : Row) → i < j → put b (put c ws j s) i r ≡ put c (put b ws i r) j s
unfolding put when◌then◌else◌ layout
put_comm true true ws i j r s h = sets_comm (layout r) (layout s) ws (i * row_words) (j * row_words) (omega arith)
put_comm true false ws i j r s h = refl
put_comm false true ws i j r s h = refl
put_comm false false ws i j r s h = refl

-- two rows, in either order
store_comm : (ws : List ℕ) (i j : ℕ) (r s : Row) → i < j → store (store ws j s) i r ≡ store (store ws i r) j s
unfolding store put rows_in
store_comm ws i j r s h =
    rw (length-put (ltb j (rows_in ws)) ws j s, length-put (ltb i (rows_in ws)) ws i r)
    (put_comm (ltb i (rows_in ws)) (ltb j (rows_in ws)) ws i j r s h)

-- ---- rows one after another

pub length-lay : (ws : List ℕ) (i : ℕ) (rs : List Row) → length (lay ws i rs) ≡ length ws
unfolding lay
length-lay ws i [] = refl
length-lay ws i (r ∷ rs) = length-lay (store ws i r) (suc i) rs ∙ length-store ws i r

-- one run after another is one run
pub lay_append : (ws : List ℕ) (i : ℕ) (a b : List Row) → lay (lay ws i a) (i + length a) b ≡ lay ws i (a ++ b)
unfolding lay
lay_append ws i [] b = ap (λ k. lay ws k b) (omega arith)
lay_append ws i (r ∷ a) b =
    ap (λ k. lay (lay (store ws i r) (suc i) a) k b) (omega arith) ∙ lay_append (store ws i r) (suc i) a b

store-lay : (ws : List ℕ) (i j : ℕ) (r : Row) (b : List Row) → i < j → store (lay ws j b) i r ≡ lay (store ws i r) j b
unfolding lay
store-lay ws i j r [] h = refl
store-lay ws i j r (s ∷ b) h = store-lay (store ws j s) i (suc j) r b (omega arith) ∙ ap (λ t. lay t (suc j) b) (store_comm ws i j r s h)

-- a container's row, stored after those below it
pub lay_front : (ws : List ℕ) (i : ℕ) (r : Row) (b : List Row) → store (lay ws (suc i) b) i r ≡ lay ws i (r ∷ b)
unfolding lay
lay_front ws i r b = store-lay ws i (suc i) r b (omega arith)

-- ---- a table that has room for all

store_there : (ws : List ℕ) (i : ℕ) (r : Row) → (i + 1) * row_words ≤ length ws → store ws i r ≡ sets ws (i * row_words) (layout r)
unfolding store rows_in when◌then◌else◌
store_there ws i r h = rw (lt-ltb i (length ws / row_words) (omega arith))

lay_there : (ws : List ℕ) (i : ℕ) (rs : List Row) → (i + length rs) * row_words ≤ length ws → lay ws i rs ≡ sets ws (i * row_words) (words_of rs)
unfolding lay words_of
lay_there ws i [] h = refl
lay_there ws i (r ∷ rs) h =
    lay_there (store ws i r) (suc i) rs (rw (length-store ws i r) (omega arith))
    ∙ ap (λ t. sets t (suc i * row_words) (words_of rs)) (store_there ws i r (omega arith))
    ∙ ap (λ k. sets (sets ws (i * row_words) (layout r)) k (words_of rs)) (omega (arith, length-layout r))
    ∙ sets_append (layout r) (words_of rs) ws (i * row_words)

-- what is laid from the first row on, and zeros after it
pub lay_cleared : (ws : List ℕ) (rs : List Row) → length rs * row_words ≤ length ws → cleared_from (lay ws 0 rs) (length rs * row_words) ≡ filled (length ws) (words_of rs)
unfolding filled
lay_cleared ws rs h =
    let w = length_words rs in
    let e : length rs * row_words ≡ length (words_of rs) = omega arith in
    let l : lay ws 0 rs ≡ words_of rs ++ drop (length (words_of rs)) ws = lay_there ws 0 rs (omega arith) ∙ sets-eq (words_of rs) ws 0 (omega arith) ∙ ap (λ k. words_of rs ++ drop k ws) (zero-add (length (words_of rs))) in
    rw (length-lay ws 0 rs, l, e) (ap (λ t. t ++ zeros (length ws - length (words_of rs))) (take-append_seam (words_of rs) (drop (length (words_of rs)) ws)))
