-- Scalars, texts, high-precision numbers, extensions and keys in house form are read again as the same. Assumes nothing.
use Prim.Native.Nat.{ℕ, ◌+◌, ◌≤◌, ◌<◌}
use mathlib.Core.Path.{◌≡◌, refl, sym, subst, ◌∙◌}
use mathlib.Core.Bool.{Bool, true, false, not, ◌&&◌, false≢true}
use mathlib.Core.List.{List, [], ◌∷◌, ◌++◌, append_assoc}
use native.Mathlib.Omega.{arith}
use lib.ListN.{get_or}
use lib.Dec.{eqb}
use borrow.Author.Tests.{not-true}
use Rattle.format.specs.Grammars.{Grammar}
use Rattle.format.specs.Conditions.{when◌then◌else◌, among, all}
use Rattle.format.specs.Limits.{limit, id_limit}
use Rattle.format.specs.Marks.{Opening, is_scalar, integers, types, width, 'Z', 'T', 'F', 'S', 'H', 'E'}
use Rattle.format.specs.Tokens.{Kind, kind_number, scalar, text, high_precision, key, array, object, packed, table, leaf, schema_record, fixed_array, dimension, extension, Forest, none, node, alone, uncounted, size}
use Rattle.format.specs.Bytes.{bytes}
use Rattle.format.specs.Integers.{smallest}
use Rattle.format.specs.HouseForm.{small_integer, payload_of, token}
use Rattle.format.specs.SameMeaning.{free, has_bytes, has_id}
use Rattle.format.specs.Sequences.{Reader}
use Rattle.format.specs.Scalars as Scalars
use Rattle.format.specs.Extensions as Extensions
use Rattle.format.specs.Extensions.{may_have, extension_token, id_bytes}
use Rattle.format.specs.Read as Read
use Rattle.format.proofs.Tests.{both_true}
use Rattle.format.proofs.MarkFacts.{among_passes}
use Rattle.meaning.specs.Standing.{no_token}
use Rattle.meaning.proofs.Same.{Counts, Same, nothing, one}
use Rattle.meaning.proofs.Numbers.{small_marks, smallest_passes}
use Rattle.meaning.proofs.Known.{Succeeds, succeeds, taken, passed, Content, From, from_past, byte_known, one_of_known, row_known, number_known, integer_known, small_mark, payload_known, byte_at, guard_known, copied_integer_known}
use Rattle.meaning.proofs.Accepted.{HasId}
use Rattle.meaning.proofs.Chains.{closers, Begins, CopyAt, copy_at, Reading, alone_reading}

-- what none of a list is
pub none_among : (p : ℕ → Bool) (l : List ℕ) (x : ℕ) → all (λ k. not (p k)) l ≡ true → among l x ≡ true → p x ≡ false
none_among p l x a h = not-true (p x) (among_passes (λ k. not (p k)) l x a h)

-- what begins with an integer's mark
pub small_begins : (bad : List ℕ) (n : ℕ) (y : List ℕ) → all (λ k. not (among bad k)) small_marks ≡ true → Begins bad (small_integer n ++ y)
unfolding small_integer
small_begins bad n y a =
    record { head = smallest n; tail = _; split = refl; fits = not-true (among bad (smallest n)) (smallest_passes (λ k. not (among bad k)) n a) }

-- where bytes count, the place of the payload doesn't
place_free : (kind : Kind) → has_bytes (kind_number kind) ≡ true → Counts kind 3 → ⊥
unfolding has_bytes free among when◌then◌else◌
place_free scalar b c = false≢true (sym c)
place_free text b c = false≢true (sym c)
place_free high_precision b c = false≢true (sym c)
place_free key b c = false≢true (sym c)
place_free array b c = false≢true b
place_free object b c = false≢true b
place_free packed b c = false≢true (sym c)
place_free table b c = false≢true (sym c)
place_free leaf b c = false≢true b
place_free schema_record b c = false≢true b
place_free fixed_array b c = false≢true b
place_free dimension b c = false≢true b
place_free extension b c = false≢true (sym c)

-- a kind of which the bytes are copied, and no id
abbrev pub copies : Kind → Bool
copies kind = has_bytes (kind_number kind) && not (has_id (kind_number kind))

module _ (m h : List ℕ) where
  -- a token whose bytes are copied
  pub copied_same : (kind : Kind) (mark at at' start start' extent n order : ℕ) {below below' : Forest} → copies kind ≡ true
      → bytes h start' extent ≡ bytes m start extent → Same m h below below'
      → Same m h (node (record { kind = kind; mark = mark; first = at; payload = start; extent = extent; count = n; order = order }) below none)
      (node (record { kind = kind; mark = mark; first = at'; payload = start'; extent = extent; count = n; order = order }) below' none)
  unfolding payload_of
  copied_same kind mark at at' start start' extent n order b x s = one (record {
    kinds = refl;
    marks = λ _. refl;
    payloads = λ c. absurd (place_free kind (both_true (has_bytes (kind_number kind)) _ b).0 c);
    extents = λ _. refl;
    counted = refl;
    orders = refl;
    contents = λ _. x;
    ids = λ c. absurd (false≢true (sym (not-true _ (both_true (has_bytes (kind_number kind)) _ b).1) ∙ c));
  }) s nothing

module _ (m h : List ℕ) (rows_lent : ℕ) (grammar : Grammar) (most : ℕ) (lent : most ≤ rows_lent) where
  -- a value, given what reads a container
  abbrev Value : (Opening → Reader) → Forest → Type 0
  Value nested f = Reading m h most closers (Read.value_by h rows_lent grammar nested) f

  scalar_begins : (mark : ℕ) → is_scalar mark ≡ true → among closers mark ≡ false
  unfolding is_scalar types integers all among closers
  scalar_begins mark t = none_among (among closers) ('Z' ∷ 'T' ∷ 'F' ∷ types) mark refl t

  pub scalar_again : (nested : Opening → Reader) (mark at₀ start : ℕ) → is_scalar mark ≡ true → Content m mark start (width mark)
      → Value nested (alone (uncounted scalar mark at₀ start (width mark)))
  unfolding token payload_of Read.value_by Scalars.scalar size has_bytes among
  scalar_again nested mark at₀ start t c = alone_reading m h most (record { head = mark; tail = _; split = refl; fits = scalar_begins mark t }) λ at row l e s.
      byte_known h _ e (taken _ _ t (row_known h rows_lent at row (omega arith)
      (payload_known h m mark start (width mark) l _ c (from_past h (mark ∷ []) e) λ e' x.
      succeeds (copy_at refl (copied_same m h scalar mark at₀ at start _ (width mark) 0 0 refl x nothing) no_token, e'))))

  -- `S` or `H`, its length and its bytes
  text_reads : (kind : Kind) (mark at₀ start n : ℕ) → copies kind ≡ true → n ≤ limit → Content m mark start n → (at row : ℕ) (l : List ℕ)
      → From h at (mark ∷ (small_integer n ++ (bytes m start n ++ l))) → row < rows_lent
      → Succeeds (λ r. CopyAt m h at (alone (uncounted kind mark at₀ start n)) r.0 × From h r.1 l) (Scalars.text h rows_lent kind mark at row)
  unfolding Scalars.text
  text_reads kind mark at₀ start n b u c at row l e s = row_known h rows_lent at row s (integer_known h n u _ (from_past h (mark ∷ []) e) λ next e₁.
      payload_known h m mark start n l _ c e₁ λ e₂ x. succeeds (copy_at refl (copied_same m h kind mark at₀ at start next n 0 0 b x nothing) no_token, e₂))

  pub text_again : (nested : Opening → Reader) (at₀ start n : ℕ) → n ≤ limit → Content m 'S' start n → Value nested (alone (uncounted text 'S' at₀ start n))
  unfolding token payload_of Read.value_by size is_scalar types integers among closers has_bytes
  text_again nested at₀ start n u c = alone_reading m h most (record { head = 'S'; tail = _; split = refl; fits = refl }) λ at row l e s.
      let e₁ : From h at ('S' ∷ (small_integer n ++ (bytes m start n ++ l))) = subst (λ x. From h at ('S' ∷ x)) (append_assoc (small_integer n) _ l) e in
      byte_known h _ e₁ (passed _ _ refl (taken _ _ refl (text_reads text 'S' at₀ start n refl u c at row l e₁ (omega arith))))

  pub number_again : (nested : Opening → Reader) (at₀ start n : ℕ) → n ≤ limit → Content m 'H' start n → Value nested (alone (uncounted high_precision 'H' at₀ start n))
  unfolding token payload_of Read.value_by size is_scalar types integers among closers has_bytes
  number_again nested at₀ start n u c = alone_reading m h most (record { head = 'H'; tail = _; split = refl; fits = refl }) λ at row l e s.
      let e₁ : From h at ('H' ∷ (small_integer n ++ (bytes m start n ++ l))) = subst (λ x. From h at ('H' ∷ x)) (append_assoc (small_integer n) _ l) e in
      byte_known h _ e₁ (passed _ _ refl (passed _ _ refl (taken _ _ refl (text_reads high_precision 'H' at₀ start n refl u c at row l e₁ (omega arith)))))

  -- `E`, its id, its length and its bytes
  extension_reads : (id at₀ start n : ℕ) → HasId m at₀ id → n ≤ limit → may_have id n ≡ true → Content m 'E' start n → (at row : ℕ) (l : List ℕ)
      → From h at ('E' ∷ (id_bytes m at₀ ++ (small_integer n ++ (bytes m start n ++ l)))) → row < rows_lent
      → Succeeds (λ r. CopyAt m h at (alone (extension_token id at₀ start n)) r.0 × From h r.1 l) (Extensions.extension h rows_lent at row)
  unfolding Extensions.extension id_bytes payload_of has_bytes free among when◌then◌else◌
  extension_reads id at₀ start n i u t c at row l e s =
      let mark : ℕ = get_or m (at₀ + 1) 0 in
      let e₁ = from_past h ('E' ∷ []) e in
      let q : at + 1 + 1 ≡ at + 2 = omega arith in
      row_known h rows_lent at row s
      (copied_integer_known h m id_limit mark (at₀ + 2) id _ _ i.integer i.inside i.number i.unsigned i.low e₁ λ e₂ y.
      integer_known h n u _ e₂ λ next e₃. guard_known _ _ _ t (payload_known h m 'E' start n l _ c e₃ λ e₄ x.
      succeeds (
        copy_at refl (one (record {
          kinds = refl;
          marks = λ _. refl;
          payloads = λ c. absurd (false≢true (sym c));
          extents = λ _. refl;
          counted = refl;
          orders = refl;
          contents = λ _. x;
          ids = λ _. rw (byte_at h (at + 1) mark _ e₁, rw q at y);
        }) nothing nothing) no_token,
        e₄,
      )))

  pub extension_again : (nested : Opening → Reader) (id at₀ start n : ℕ) → grammar.extensions ≡ true → HasId m at₀ id → n ≤ limit → may_have id n ≡ true
      → Content m 'E' start n → Value nested (alone (extension_token id at₀ start n))
  unfolding token payload_of Read.value_by size is_scalar types integers among closers
  extension_again nested id at₀ start n g i u t c = alone_reading m h most (record { head = 'E'; tail = _; split = refl; fits = refl }) λ at row l e s.
      let e₁ : From h at ('E' ∷ (id_bytes m at₀ ++ (small_integer n ++ (bytes m start n ++ l)))) =
      subst (λ x. From h at ('E' ∷ x)) (append_assoc (id_bytes m at₀ ++ small_integer n) _ l ∙ append_assoc (id_bytes m at₀) (small_integer n) _) e in
      let allowed : (grammar.extensions && eqb 'E' 'E') ≡ true = rw g in
      byte_known h _ e₁ (passed _ _ refl (passed _ _ refl (passed _ _ refl (passed _ _ refl (passed _ _ refl (taken _ _ allowed
      (extension_reads id at₀ start n i u t c at row l e₁ (omega arith))))))))

  pub key_again : (at₀ start n : ℕ) → n ≤ limit → Content m 'S' start n → Reading m h most closers (Scalars.key h rows_lent) (alone (uncounted key 'S' at₀ start n))
  unfolding token payload_of Scalars.key size among all closers small_integer has_bytes
  key_again at₀ start n u c = alone_reading m h most (small_begins closers n (bytes m start n) refl) λ at row l e s.
      let e₁ : From h at (small_integer n ++ (bytes m start n ++ l)) = subst (From h at) (append_assoc (small_integer n) _ l) e in
      one_of_known h _ _ e₁ (small_mark h n u) (row_known h rows_lent at row (omega arith) (number_known h n u at _ (from_past h (smallest n ∷ []) e₁) λ next e₂.
      payload_known h m 'S' start n l _ c e₂ λ e₃ x. succeeds (copy_at refl (copied_same m h key 'S' at₀ at start next n 0 0 refl x nothing) no_token, e₃)))
