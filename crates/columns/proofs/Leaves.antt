-- The leaves of a schema, as they are read, and a walk over one. Assumes nothing.
use Prim.Native.Nat.{ℕ, ◌+◌, ◌≤◌, ◌<◌, min}
use mathlib.Core.Path.{◌≡◌, refl, sym, ◌∙◌, ap}
use mathlib.Core.Bool.{Bool, true, false, false≢true}
use mathlib.Core.List.{List}
use native.Mathlib.Omega.{arith}
use lib.ListN.{length, get_or}
use lib.Dec.{eqb}
use borrow.Author.Tests.{lt-ltb, eq-eqb, ne_eqb}
use Rattle.format.specs.Conditions.{when◌then◌else◌, among}
use Rattle.format.specs.Outcome.{fault, done, ◌>>=◌, ◌>>◌, guard}
use Rattle.format.specs.Marks.{Opening, bracket, brace, is_plain_leaf, leaf_width, types, integers, 'H', 'S', '[', left_brace}
use Rattle.format.specs.Tokens.{is_kind, Forest}
use Rattle.format.specs.Records.{member_width, total_width}
use Rattle.format.specs.Bytes.{byte}
use Rattle.format.specs.Integers.{integer}
use Rattle.format.specs.Sequences.{Reader, row_left}
use Rattle.format.specs.Schemas.{leaf, plain_leaf, text_leaf, kind_by, nested}
use Rattle.laws.proofs.Bounds.{byte_starts}
use Rattle.columns.specs.Least.{in_column, in_columns, Fits}
use Rattle.columns.specs.Walks.{Over, Walks}
use Rattle.columns.specs.declared.Walk.{Walk}
use Rattle.columns.proofs.LeafByLeaf.{column_most}
use Rattle.columns.proofs.Inverse.{never, done_pair, bind_done, then_done}

-- ---- a kind, by its mark

module _ (m : List ℕ) (lent : ℕ) (nest : Opening → Reader) (at row : ℕ) where
  pub kind_early : (r : Forest × ℕ) → length m ≤ at → kind_by m lent nest at row ≡ done r → ⊥
  unfolding kind_by
  kind_early r h e = never (sym (byte_starts m at _ h) ∙ e)

  module _ (there : at < length m) where
    pub kind_plain : is_plain_leaf (get_or m at 0) ≡ true → kind_by m lent nest at row ≡ plain_leaf m lent (get_or m at 0) at row
    unfolding kind_by byte guard ◌>>◌ ◌>>=◌ when◌then◌else◌
    kind_plain p = rw (lt-ltb _ _ there, p)

    pub kind_text : is_plain_leaf (get_or m at 0) ≡ false → get_or m at 0 ≡ 'S' → kind_by m lent nest at row ≡ text_leaf m lent at row
    unfolding kind_by byte guard ◌>>◌ ◌>>=◌ when◌then◌else◌
    kind_text p s = rw (lt-ltb _ _ there, p, eq-eqb _ _ s)

    pub kind_bracket : get_or m at 0 ≡ '[' → kind_by m lent nest at row ≡ nest bracket at row
    unfolding kind_by byte guard ◌>>◌ ◌>>=◌ when◌then◌else◌ is_plain_leaf among types integers
    kind_bracket b = rw (lt-ltb _ _ there, b)

    pub kind_brace : get_or m at 0 ≡ left_brace → kind_by m lent nest at row ≡ nest brace at row
    unfolding kind_by byte guard ◌>>◌ ◌>>=◌ when◌then◌else◌ is_plain_leaf among types integers
    kind_brace b = rw (lt-ltb _ _ there, b)

    pub kind_other : is_plain_leaf (get_or m at 0) ≡ false → (get_or m at 0 ≡ 'S' → ⊥) → (get_or m at 0 ≡ '[' → ⊥) → (get_or m at 0 ≡ left_brace → ⊥)
        → (r : Forest × ℕ) → kind_by m lent nest at row ≡ done r → ⊥
    unfolding kind_by byte guard ◌>>◌ ◌>>=◌ when◌then◌else◌
    kind_other p s a b r = rw (lt-ltb _ _ there, p, ne_eqb _ _ s, ne_eqb _ _ a, ne_eqb _ _ b) (go (eqb (get_or m at 0) 'H') _ _)
      where
        go : (h : Bool) (n k : ℕ) → (when h then fault n at else fault k at) ≡ done r → ⊥
        go true n k e = never e
        go false n k e = never e

  pub plain_done : (mark : ℕ) (f : Forest) (next : ℕ) → plain_leaf m lent mark at row ≡ done (f, next) → (f ≡ leaf mark at (leaf_width mark)) × (next ≡ at + 1)
  unfolding plain_leaf
  plain_done mark f next e =
      let q = done_pair (then_done (row_left lent at row) _ e).1 in
      (sym q.0, sym q.1)

  pub text_done : (f : Forest) (next : ℕ) → text_leaf m lent at row ≡ done (f, next) → (n : ℕ) × (integer m (at + 1) ≡ done (n, next)) × (f ≡ leaf 'S' at n)
  unfolding text_leaf
  text_done f next e =
      let x = bind_done (integer m (at + 1)) _ (then_done (row_left lent at row) _ e).1 in
      let q = done_pair x.2 in
      let j = q.1 in
      (x.0.0, x.1 ∙ ap (λ (z : ℕ). done (x.0.0, z)) j, sym q.0)

-- ---- a walk over a leaf

pub leaf_wide : (mark at w : ℕ) → total_width (leaf mark at w) ≡ w
unfolding leaf total_width member_width is_kind when◌then◌else◌
leaf_wide mark at w = omega arith

pub leaf_over_lem : (m : List ℕ) (mark w stride n place best next low : ℕ) → low ≡ min best (in_column m mark w stride n place)
    → (at : ℕ) → Over m stride n place best (leaf mark at w) next (record { next = next; place = place + w; best = low })
unfolding leaf in_columns is_kind when◌then◌else◌
leaf_over_lem m mark w stride n place best next low e at =
    let k = column_most m mark w stride n place in
    record { ended = refl; onward = rw (leaf_wide mark at w); lowest = e ∙ omega arith }

plain_not_h : (mark : ℕ) → is_plain_leaf mark ≡ true → mark ≡ 'H' → ⊥
unfolding is_plain_leaf among types integers
plain_not_h mark p e = false≢true (rw e at p)

module _ (m : List ℕ) (at stride n place best : ℕ) (r : Walk) where
  abbrev LeafWalked : ℕ → ℕ → ℕ → Type 0
  LeafWalked mark w next = (mark ≡ 'H' → ⊥) → Fits m stride n (place + w) → (a : ℕ) → Over m stride n place best (leaf mark a w) next r

  leaf_walks : (mark w next : ℕ) (f : Forest) → f ≡ leaf mark at w → (mark ≡ 'H' → ⊥) → LeafWalked mark w next → Fits m stride n (place + total_width f) → Over m stride n place best f next r
  leaf_walks mark w next f e h k = rw (e, leaf_wide mark at w) (λ i. k h i at)

  pub no_walk : (levels : ℕ) → length m ≤ at → Walks m (λ lent. kind_by m lent (nested m lent levels)) at stride n place best r
  no_walk levels h lent row next f l e i = absurd (kind_early m lent (nested m lent levels) at row (f, next) h e)

  module _ (there : at < length m) where
    pub plain_walks : is_plain_leaf (get_or m at 0) ≡ true → (w : ℕ) → w ≡ leaf_width (get_or m at 0) → LeafWalked (get_or m at 0) w (at + 1)
        → (levels : ℕ) → Walks m (λ lent. kind_by m lent (nested m lent levels)) at stride n place best r
    plain_walks p w q k levels lent row next f l e i =
        let d = plain_done m lent (nested m lent levels) at row (get_or m at 0) f next (sym (kind_plain m lent (nested m lent levels) at row there p) ∙ e) in
        rw d.1 (leaf_walks (get_or m at 0) w (at + 1) f (rw q d.0) (plain_not_h _ p) k i)

    pub text_walks : is_plain_leaf (get_or m at 0) ≡ false → get_or m at 0 ≡ 'S' → (w end : ℕ) → integer m (at + 1) ≡ done (w, end) → LeafWalked 'S' w end
        → (levels : ℕ) → Walks m (λ lent. kind_by m lent (nested m lent levels)) at stride n place best r
    text_walks p s w end q k levels lent row next f l e i =
        let d = text_done m lent (nested m lent levels) at row f next (sym (kind_text m lent (nested m lent levels) at row there p s) ∙ e) in
        let z = done_pair (sym q ∙ d.1) in
        rw (← z.1) (leaf_walks 'S' w end f (rw z.0 d.2) (λ b. let z : 83 ≡ 72 = b in absurd (omega arith)) k i)

    pub unread_walks : is_plain_leaf (get_or m at 0) ≡ false → get_or m at 0 ≡ 'S' → (x y : ℕ) → integer m (at + 1) ≡ fault x y
        → (levels : ℕ) → Walks m (λ lent. kind_by m lent (nested m lent levels)) at stride n place best r
    unread_walks p s x y q levels lent row next f l e i =
        let d = text_done m lent (nested m lent levels) at row f next (sym (kind_text m lent (nested m lent levels) at row there p s) ∙ e) in
        absurd (never (sym q ∙ d.1))

    pub other_walks : is_plain_leaf (get_or m at 0) ≡ false → (get_or m at 0 ≡ 'S' → ⊥) → (levels : ℕ) → (get_or m at 0 ≡ '[' → ⊥) → (get_or m at 0 ≡ left_brace → ⊥)
        → Walks m (λ lent. kind_by m lent (nested m lent levels)) at stride n place best r
    other_walks p s levels a b lent row next f l e i = absurd (kind_other m lent (nested m lent levels) at row there p s a b (f, next) e)
