-- The tokens of a forest by their rows: each row has one, and the words that hold the forest's rows have its row there. Assumes nothing.
use Prim.Native.Nat.{ℕ, suc, ◌+◌, ◌-◌, ◌*◌, ◌≤◌, ◌<◌}
use mathlib.Core.Path.{◌≡◌, refl, sym, subst, ap, ◌∙◌}
use mathlib.Core.List.{List, [], ◌∷◌, ◌++◌, append_assoc, append-nil}
use native.Mathlib.Omega.{arith}
use native.Mathlib.Decide.{dec_lt}
use lib.ListN.{length, length-append}
use Rattle.format.specs.Outcome.{done}
use Rattle.format.specs.Tokens.{Token, Forest, none, node, size}
use Rattle.format.specs.Rows.{Row, Ancestry, outermost, held_by, row_at, row_words, row_of, rows, words_of, all_rows, all_words, zeros, filled}
use Rattle.format.specs.Read.{words_after}
use Rattle.format.proofs.RowWords.{length_words, row_there, row_past, zero_kind}
use Rattle.laws.specs.Places.{At, here, under, later}
use Rattle.format.proofs.Forests.{length-rows}
use Rattle.storage.specs.Places.{Field, own, next, Filled, Top, first_top, later_top, Rowed, no_rows, its_rows}

-- ---- rows

-- a token and those below it stand within the forest's rows
pub at_size : {n k : ℕ} {f v : Forest} {t : Token} → At n f k t v → (n ≤ k) × (suc k + size v ≤ n + size f)
unfolding size
at_size here = (omega arith, omega arith)
at_size (under x) = let i = at_size x in (omega arith, omega arith)
at_size (later x) = let i = at_size x in (omega arith, omega arith)

-- no row of none
pub no_at : {n k : ℕ} {t : Token} {v : Forest} → At n none k t v → ⊥
no_at x = elim x [ ]

-- every row of a forest is a token's
pub at_exists : (f : Forest) (n k : ℕ) → n ≤ k → k < n + size f → (t : Token) × (v : Forest) × At n f k t v
unfolding size
at_exists none n k h q = absurd (omega arith)
at_exists (node t below after) n k h q = elim (dec_lt n k) [
  | no p ↦ (let e : n ≡ k = omega arith in (t, below, subst (λ (x : ℕ). At n (node t below after) x t below) e here))
  | yes p ↦ elim (dec_lt k (suc n + size below)) [
    | yes r ↦ (let x = at_exists below (suc n) k p (omega arith) in (x.0, x.1, under x.2))
    | no r ↦ (let x = at_exists after (suc n + size below) k (omega arith) (omega arith) in (x.0, x.1, later x.2))
  ]
]

-- and of one only
at_equal : {n k k' : ℕ} {f v v' : Forest} {t t' : Token} → At n f k t v → At n f k' t' v' → k ≡ k' → (t ≡ t') × (v ≡ v')
at_equal here here e = (refl, refl)
at_equal here (under y) e = let w = at_size y in absurd (omega arith)
at_equal here (later y) e = let w = at_size y in absurd (omega arith)
at_equal (under x) here e = let w = at_size x in absurd (omega arith)
at_equal (later x) here e = let w = at_size x in absurd (omega arith)
at_equal (under x) (under y) e = at_equal x y e
at_equal (later x) (later y) e = at_equal x y e
at_equal (under x) (later y) e = let w = at_size x in let z = at_size y in absurd (omega arith)
at_equal (later x) (under y) e = let w = at_size x in let z = at_size y in absurd (omega arith)

pub at_same : {n k : ℕ} {f v v' : Forest} {t t' : Token} → At n f k t v → At n f k t' v' → (t ≡ t') × (v ≡ v')
at_same x y = at_equal x y refl

-- a row below a row
pub at_below : {n k j : ℕ} {f v w : Forest} {t u : Token} → At n f k t v → At (suc k) v j u w → At n f j u w
at_below here y = under y
at_below (under x) y = under (at_below x y)
at_below (later x) y = later (at_below x y)

-- ---- fields

-- every row of a schema is in a field
pub at_field : {n k : ℕ} {f v : Forest} {t : Token} → At n f k t v → (row : ℕ) × (u : Token) × Field n f row u k t
at_field {n} (here {t = t}) = (n, t, own here)
at_field {n} (under {t = t} x) = (n, t, own (under x))
at_field (later x) = let r = at_field x in (r.0, r.1, next r.2)

-- and a field has a row itself
pub field_row : {n row k : ℕ} {f : Forest} {u t : Token} → Field n f row u k t → (v : Forest) × At n f row u v
field_row (own x) = (_, here)
field_row (next x) = let r = field_row x in (r.0, later r.1)

-- as the row in it does
pub field_at : {n row k : ℕ} {f : Forest} {u t : Token} → Field n f row u k t → (v : Forest) × At n f k t v
field_at (own here) = (_, here)
field_at (own (under x)) = (_, under x)
field_at (own (later x)) = absurd (no_at x)
field_at (next x) = let r = field_at x in (r.0, later r.1)

-- a row is in one field only
pub field_same : {n k row row' : ℕ} {f : Forest} {u u' t t' : Token} → Field n f row u k t → Field n f row' u' k t' → (u ≡ u') × (t ≡ t')
unfolding size
field_same (own x) (own y) = (refl, (at_same x y).0)
field_same (own x) (next y) = let v = at_size x in let w = at_size (field_at y).1 in absurd (omega arith)
field_same (next x) (own y) = let v = at_size (field_at x).1 in let w = at_size y in absurd (omega arith)
field_same (next x) (next y) = field_same x y

-- ---- words

module _ {ws : List ℕ} {n : ℕ} {a : Ancestry} {t : Token} {below after : Forest} where
  pub rowed_own : Rowed ws n a (node t below after) → row_at ws n ≡ row_of t (suc n + size below) a
  rowed_own (its_rows o u l) = o

  pub rowed_under : Rowed ws n a (node t below after) → Rowed ws (suc n) (held_by n a) below
  rowed_under (its_rows o u l) = u

  pub rowed_later : Rowed ws n a (node t below after) → Rowed ws (suc n + size below) a after
  rowed_later (its_rows o u l) = l

-- a token's row, and those below it
pub rowed_at : {ws : List ℕ} {n k : ℕ} {a : Ancestry} {f v : Forest} {t : Token} → Rowed ws n a f → At n f k t v
    → (b : Ancestry) × (row_at ws k ≡ row_of t (suc k + size v) b) × Rowed ws (suc k) (held_by k b) v
rowed_at {a = a} r here = (a, rowed_own r, rowed_under r)
rowed_at r (under x) = rowed_at (rowed_under r) x
rowed_at r (later x) = rowed_at (rowed_later r) x

-- the row of a token that no other of the forest holds, and those below it
pub rowed_top : {ws : List ℕ} {n k : ℕ} {a : Ancestry} {f v : Forest} {t : Token} → Rowed ws n a f → Top n f k t v
    → (row_at ws k ≡ row_of t (suc k + size v) a) × Rowed ws (suc k) (held_by k a) v
rowed_top r first_top = (rowed_own r, rowed_under r)
rowed_top r (later_top x) = rowed_top (rowed_later r) x

-- rows that lie in the words, after some and before others
rows_lie : (before after : List Row) (ws : List ℕ) (n : ℕ) (a : Ancestry) (f : Forest) → length before ≡ n → Rowed (words_of (before ++ (rows n a f ++ after)) ++ ws) n a f
unfolding rows
rows_lie before after ws n a none e = no_rows
rows_lie before after ws n a (node t below rest) e =
    let r = row_of t (suc n + size below) a in
    let b = rows (suc n) (held_by n a) below in
    let c = rows (suc n + size below) a rest in
    let past : length (before ++ (r ∷ [])) ≡ suc n = length-append before (r ∷ []) ∙ omega arith in
    let u : (before ++ (r ∷ [])) ++ (b ++ (c ++ after)) ≡ before ++ (r ∷ ((b ++ c) ++ after)) =
    append_assoc before (r ∷ []) (b ++ (c ++ after)) ∙ ap (λ l. before ++ (r ∷ l)) (sym (append_assoc b c after)) in
    let l : ((before ++ (r ∷ [])) ++ b) ++ (c ++ after) ≡ before ++ (r ∷ ((b ++ c) ++ after)) = append_assoc (before ++ (r ∷ [])) b (c ++ after) ∙ u in
    its_rows (row_there before ((b ++ c) ++ after) r ws n e)
    (subst (λ k. Rowed (words_of k ++ ws) (suc n) (held_by n a) below) u (rows_lie (before ++ (r ∷ [])) (c ++ after) ws (suc n) (held_by n a) below past))
    (subst (λ k. Rowed (words_of k ++ ws) (suc n + size below) a rest) l
    (rows_lie ((before ++ (r ∷ [])) ++ b) after ws (suc n + size below) a rest (length-append (before ++ (r ∷ [])) b ∙ omega (arith, past, length-rows (suc n) (held_by n a) below))))

-- what reading leaves in lent words is so filled
pub read_fills : (words : ℕ) (f : Forest) → Filled f (words_after words (done f))
unfolding words_after filled
read_fills words f = record { spare = words - length (all_words f); words_are = refl }

module _ (f : Forest) (ws : List ℕ) (full : Filled f ws) where
  -- every token's row is there
  pub filled_rows : Rowed ws 0 outermost f
  unfolding all_words all_rows
  filled_rows =
      subst (λ l. Rowed l 0 outermost f) (ap (λ l. words_of l ++ zeros full.spare) (append-nil (rows 0 outermost f)) ∙ sym full.words_are)
      (rows_lie [] [] (zeros full.spare) 0 outermost f refl)

  -- and no row after those
  pub filled_after : (k : ℕ) → size f ≤ k → (row_at ws k).kind ≡ 0
  unfolding all_words all_rows
  filled_after k h =
      rw (full.words_are, row_past (rows 0 outermost f) (zeros full.spare) k (omega (arith, length-rows 0 outermost f))) (zero_kind full.spare _)

  -- there are words for all rows
  pub filled_enough : size f * row_words ≤ length ws
  unfolding all_words all_rows
  filled_enough = rw full.words_are (omega (arith, length-append (words_of (rows 0 outermost f)) (zeros full.spare), length_words (rows 0 outermost f), length-rows 0 outermost f))
