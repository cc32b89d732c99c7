-- One meaning, one house form: messages of the same meaning have the same house form, and no others have. Assumes nothing.
use Prim.Native.Nat.{ℕ, suc, ◌+◌, ◌≤◌}
use mathlib.Core.Path.{◌≡◌, refl, sym, ap, subst, ◌∙◌}
use mathlib.Core.Bool.{Bool, true, false, false≢true}
use mathlib.Core.List.{List, [], ◌++◌, map, map-append, head-eq_of_cons-eq, tail-eq_of_cons-eq}
use mathlib.Core.Logic.{◌↔◌}
use native.Mathlib.Omega.{arith}
use lib.ListN.{length, get_or, take, drop, length-map}
use lib.Seq.{take_at, drop_at}
use Rattle.format.specs.Grammars.{Grammar}
use Rattle.format.specs.Conditions.{when◌then◌else◌, among}
use Rattle.format.specs.Outcome.{done}
use Rattle.format.specs.Limits.{limit}
use Rattle.format.specs.Tokens.{Kind, kind_number, scalar, text, high_precision, key, array, object, packed, table, leaf, schema_record, fixed_array, dimension, extension, Token, Forest, none, node, size}
use Rattle.format.specs.Rows.{Ancestry, outermost, held_by, layout, row_of, rows, all_rows}
use Rattle.format.specs.Read.{read}
use Rattle.format.specs.Extensions.{id_bytes}
use Rattle.format.specs.HouseForm.{payload_of, house}
use Rattle.format.specs.SameMeaning.{free, kept, has_bytes, has_id, row_meaning, SameMeaning}
use Rattle.format.proofs.KindNumbers.{same_number}
use Rattle.format.proofs.Forests.{length-rows}
use Rattle.meaning.specs.Rewriting.{Rewritten}
use Rattle.meaning.proofs.Same.{Counts, Alike, Same, nothing, one, same_house}
use Rattle.meaning.proofs.RoundTrip.{round_trip_with}

-- ---- words that count

-- kind, count, link and order always do
always : (kind : Kind) → Counts kind 0 × Counts kind 5 × Counts kind 6 × Counts kind 7
unfolding free among when◌then◌else◌
always scalar = (refl, refl, refl, refl)
always text = (refl, refl, refl, refl)
always high_precision = (refl, refl, refl, refl)
always key = (refl, refl, refl, refl)
always array = (refl, refl, refl, refl)
always object = (refl, refl, refl, refl)
always packed = (refl, refl, refl, refl)
always table = (refl, refl, refl, refl)
always leaf = (refl, refl, refl, refl)
always schema_record = (refl, refl, refl, refl)
always fixed_array = (refl, refl, refl, refl)
always dimension = (refl, refl, refl, refl)
always extension = (refl, refl, refl, refl)

-- a word that counts in both rows is the same
word_same : (b c : Bool) (v w : ℕ) → (when b then 0 else v) ≡ (when c then 0 else w) → b ≡ false → c ≡ false → w ≡ v
unfolding when◌then◌else◌
word_same false false v w e p q = sym e
word_same true c v w e p q = absurd (false≢true (sym p))
word_same false true v w e p q = absurd (false≢true (sym q))

bytes_same : (b c : Bool) (x y : List ℕ) → (when b then x else []) ≡ (when c then y else []) → b ≡ true → c ≡ true → y ≡ x
unfolding when◌then◌else◌
bytes_same true true x y e p q = sym e
bytes_same false c x y e p q = absurd (false≢true p)
bytes_same true false x y e p q = absurd (false≢true q)

-- ---- lists of the same meanings

-- two lists in two parts each, of which the first are as long
parted : {A B : Type 0} (f g : A → B) (xs ys xs' ys' : List A) → length xs ≡ length xs' → map f (xs ++ ys) ≡ map g (xs' ++ ys')
    → (map f xs ≡ map g xs') × (map f ys ≡ map g ys')
parted f g xs ys xs' ys' l e =
    let n = length xs' in
    let p : length (map f xs) ≡ n = length-map xs f ∙ l in
    let q : length (map g xs') ≡ n = length-map xs' g in
    let k : map f xs ++ map f ys ≡ map g xs' ++ map g ys' = sym (map-append f xs ys) ∙ e ∙ map-append g xs' ys' in (
      sym (take_at (map f xs) (map f ys) n p) ∙ ap (take n) k ∙ take_at (map g xs') (map g ys') n q,
      sym (drop_at (map f xs) (map f ys) n p) ∙ ap (drop n) k ∙ drop_at (map g xs') (map g ys') n q,
    )

-- ---- tokens from rows of the same meaning

module _ (m h : List ℕ) where
  -- tokens whose rows have the same meaning are alike, and so are their links
  row_alike : (t u : Token) (k l : ℕ) (ancestry : Ancestry) → row_meaning m (row_of t k ancestry) ≡ row_meaning h (row_of u l ancestry) → Alike m h t.kind t u × (l ≡ k)
  unfolding row_meaning row_of layout kept payload_of
  row_alike t u k l ancestry e =
      let words : (i : ℕ) → get_or (row_meaning m (row_of t k ancestry)).0 i 0 ≡ get_or (row_meaning h (row_of u l ancestry)).0 i 0 = λ i. ap (λ (x : List ℕ × List ℕ × List ℕ). get_or x.0 i 0) e in
      let a = always t.kind in
      let b = always u.kind in
      let s : u.kind ≡ t.kind = same_number u.kind t.kind (word_same _ _ (kind_number t.kind) (kind_number u.kind) (words 0) a.0 b.0) in
      let too : (i : ℕ) → Counts t.kind i → Counts u.kind i = λ i c. ap (λ (x : Kind). among (free (kind_number x)) i) s ∙ c in (
        record {
          kinds = s;
          marks = λ c. word_same _ _ t.mark u.mark (words 1) c (too 1 c);
          payloads = λ c. word_same _ _ t.payload u.payload (words 3) c (too 3 c);
          extents = λ c. word_same _ _ t.extent u.extent (words 4) c (too 4 c);
          counted = word_same _ _ t.count u.count (words 5) a.1 b.1;
          orders = word_same _ _ t.order u.order (words 7) a.3 b.3;
          contents = λ c. bytes_same _ _ (payload_of m t) (payload_of h u) (ap (λ (x : List ℕ × List ℕ × List ℕ). x.1) e) c (ap (λ (x : Kind). has_bytes (kind_number x)) s ∙ c);
          ids = λ c. bytes_same _ _ (id_bytes m t.first) (id_bytes h u.first) (ap (λ (x : List ℕ × List ℕ × List ℕ). x.2) e) c (ap (λ (x : Kind). has_id (kind_number x)) s ∙ c);
        },
        word_same _ _ k l (words 6) a.2 b.2,
      )

  pub meaning_same : (n : ℕ) (ancestry : Ancestry) (f g : Forest) → SameMeaning m (rows n ancestry f) h (rows n ancestry g) → Same m h f g
  unfolding rows
  meaning_same n ancestry none none e = nothing
  meaning_same n ancestry none (node u b' a') e = let z : ◌≡◌ {A = ℕ} 0 1 = cc in absurd (omega arith)
  meaning_same n ancestry (node t b a) none e = let z : ◌≡◌ {A = ℕ} 0 1 = cc in absurd (omega arith)
  meaning_same n ancestry (node t b a) (node u b' a') e =
      let r = row_alike t u (suc n + size b) (suc n + size b') ancestry (head-eq_of_cons-eq e) in
      let z : size b' ≡ size b = omega (arith, r.1) in
      let p = parted (row_meaning m) (row_meaning h) (rows (suc n) (held_by n ancestry) b) (rows (suc n + size b) ancestry a) (rows (suc n) (held_by n ancestry) b') (rows (suc n + size b') ancestry a')
      (length-rows (suc n) (held_by n ancestry) b ∙ sym z ∙ sym (length-rows (suc n) (held_by n ancestry) b')) (tail-eq_of_cons-eq e) in
      one r.0 (meaning_same (suc n) (held_by n ancestry) b b' p.0) (meaning_same (suc n + size b) ancestry a a' (rw z at p.1))

  -- Messages of the same meaning have the same house form.
  pub one_house_form : (f g : Forest) → SameMeaning m (all_rows f) h (all_rows g) → house h g ≡ house m f
  unfolding all_rows
  one_house_form f g e = same_house m h (meaning_same 0 outermost f g e)

-- Two accepted messages, whose house form fits, have the same meaning exactly if they have the same house form.
pub meaning_by_house : (m n : List ℕ) (rows_lent rows_lent' : ℕ) (grammar : Grammar) (f g : Forest) → read m rows_lent grammar ≡ done f → read n rows_lent' grammar ≡ done g → length (house m f) ≤ limit
    → SameMeaning m (all_rows f) n (all_rows g) ↔ (house n g ≡ house m f)
meaning_by_house m n rows_lent rows_lent' grammar f g p q fits = (one_house_form m n f g, back)
  where
    back : house n g ≡ house m f → SameMeaning m (all_rows f) n (all_rows g)
    back e =
        let r = round_trip_with m rows_lent grammar f p fits (size f + size g) (omega arith) in
        let s : Rewritten n g (size f + size g) grammar (house m f) =
        subst (Rewritten n g (size f + size g) grammar) e (round_trip_with n rows_lent' grammar g q (rw e fits) (size f + size g) (omega arith)) in
        let t : s.tokens ≡ r.tokens = let x = r.accepted in let y = s.accepted in cc in
        r.meaning ∙ ap (λ k. map (row_meaning (house m f)) (all_rows k)) (sym t) ∙ sym s.meaning
