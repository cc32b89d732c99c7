-- Where a scalar, a text and a key end, by the bytes that are looked at. Assumes nothing.
use Prim.Native.Nat.{ℕ, zero, suc, ◌+◌, ◌*◌, ◌/◌, ◌≤◌, ◌<◌}
use mathlib.Core.Path.{◌≡◌, refl, sym, ap, subst, ◌∙◌}
use mathlib.Core.Bool.{Bool, true, false, ◌||◌}
use mathlib.Core.List.{List, [], ◌∷◌}
use native.Mathlib.Omega.{arith}
use lib.ListN.{length, get_or, set, take, drop, replicate, length-set, length-replicate, get_or-replicate}
use lib.Seq.{drop-cons, take-take, get_or-set_same, get_or-set_other}
use lib.Dec.{leb, ltb, eqb}
use borrow.Author.Tests.{le-leb, ltb-true, eqb-true, eqb-false, ne_eqb}
use Rattle.format.specs.Conditions.{when◌then◌else◌, among, all}
use Rattle.format.specs.Outcome.{done}
use Rattle.format.specs.Limits.{limit}
use Rattle.format.specs.Marks.{integers, is_integer, signed_integers, is_signed, types, is_scalar, width, 'C', 'F', 'S', 'T', 'U', 'Z'}
use Rattle.format.specs.Text.{shaped, is_text}
use Rattle.format.specs.Bytes.{little, bytes}
use Rattle.format.specs.Content.{is_content, payload_end}
use Rattle.format.specs.Integers.{is_negative, number}
use Rattle.format.proofs.Tests.{both_true}
use Rattle.format.proofs.MarkFacts.{among_passes}
use Rattle.format.proofs.Little.{little_front}
use Rattle.format.proofs.IntegerCases.{number-done, integer_number}
use Rattle.tokens.proofs.Cases.{payload_done}
use Rattle.ends.specs.Ends.{Sized, Spans, Sizes, ScalarEnds, TextEnds, KeyEnds}

-- ---- tests on bytes

-- what all pass, the first of them pass
all_take : (p : ℕ → Bool) (n : ℕ) (l : List ℕ) → all p l ≡ true → all p (take n l) ≡ true
unfolding all
all_take p zero l e = refl
all_take p (suc n) [] e = refl
all_take p (suc n) (x ∷ l) e = let h = both_true (p x) (all p l) e in rw h.0 (all_take p n l h.1)

-- the first n of more bytes
pub all_fewer : (p : ℕ → Bool) (m : List ℕ) (start n k : ℕ) → n ≤ k → all p (bytes m start k) ≡ true → all p (bytes m start n) ≡ true
unfolding bytes
all_fewer p m start n k h e = rw (← take-take n k (drop start m) h) (all_take p n (take k (drop start m)) e)

-- bytes below 128 are text
letters_text : (bs : List ℕ) → all (λ b. leb b 127) bs ≡ true → is_text bs ≡ true
unfolding all is_text shaped when◌then◌else◌
letters_text [] e = refl
letters_text (b ∷ bs) e = let h = both_true (leb b 127) (all _ bs) e in rw h.0 (letters_text bs h.1)

-- ---- marks

-- a mark has the bytes of its letter
pub sized_at : {mark k n : ℕ} → mark ≡ k → is_scalar k ≡ true → eqb k 'C' ≡ false → n ≡ 1 + width k → Sized mark n
sized_at e s c w = rw e (λ h. (s, eqb-false _ _ c, w))

-- no letter has bytes yet
pub sizes_none : Sizes (replicate 256 10)
sizes_none =
    record {
      every = length-replicate {A = ℕ} 256 10;
      spans = λ mark h. rw (get_or-replicate {A = ℕ} 256 mark 10 0 h) (λ f. absurd (omega arith));
    }

-- a scalar's mark is a byte
scalar_byte : (mark : ℕ) → is_scalar mark ≡ true → mark < 256
unfolding is_scalar types integers all among
scalar_byte mark h = ltb-true mark 256 (among_passes (λ k. ltb k 256) ('Z' ∷ 'T' ∷ 'F' ∷ types) mark refl h)

-- one letter more has its bytes
pub sizes-set : {sizes : List ℕ} (k n : ℕ) → is_scalar k ≡ true → n ≡ 1 + width k → Sizes sizes → Sizes (set sizes k n)
sizes-set {sizes} k n e w s =
    record {
      every = length-set sizes k n ∙ s.every;
      spans = λ mark h. go mark h (eqb mark k) refl;
    }
  where
    go : (mark : ℕ) → mark < 256 → (x : Bool) → eqb mark k ≡ x → Spans mark (get_or (set sizes k n) mark 0)
    go mark h true f = let small = scalar_byte k e in rw (eqb-true mark k f, get_or-set_same sizes k n 0 (omega (arith, s.every))) (λ g. (e, w))
    go mark h false f = rw (get_or-set_other sizes k mark n 0 (eqb-false _ _ f)) (s.spans mark h)

-- under a scalar's mark other than `C` any bytes are right
scalar_content : (m : List ℕ) (mark start : ℕ) → is_scalar mark ≡ true → (mark ≡ 'C' → ⊥) → is_content mark (bytes m start (width mark)) ≡ true
unfolding is_scalar types integers all among width is_content bytes when◌then◌else◌
scalar_content m mark start s c =
    let e = among_passes (λ k. eqb k 'C' || is_content k (bytes m start (width k))) ('Z' ∷ 'T' ∷ 'F' ∷ types) mark refl s in
    subst (λ b. (b || is_content mark (bytes m start (width mark))) ≡ true) (ne_eqb _ _ c) e

-- ---- scalars

module _ (m : List ℕ) (at : ℕ) where
  -- a mark and its payload, whose bytes are all there
  pub sized_ends : (n : ℕ) → Sized (get_or m at 0) n → at + n ≤ length m → length m ≤ limit → ScalarEnds m at (at + n)
  sized_ends n s h l =
      let f = s (omega arith) in
      let w = f.2 in
      let e : at + n ≡ at + 1 + width (get_or m at 0) = omega arith in
      record {
        marked = f.0;
        right = payload_done m _ (at + 1) _ (omega arith) (scalar_content m _ (at + 1) f.0 f.1) ∙ ap done (sym e);
        sized = e;
        inside = h;
      }

  -- `C` and a char
  pub char_ends : at + 2 ≤ length m → get_or m at 0 ≡ 'C' → get_or m (at + 1) 0 ≤ 127 → ScalarEnds m at (at + 2)
  unfolding is_scalar types integers among width is_content bytes all when◌then◌else◌
  char_ends h e b =
      let d = drop-cons m (at + 1) 0 (omega arith) in
      record {
        marked = rw e refl;
        right = rw e (payload_done m 'C' (at + 1) 1 (omega arith) (rw (d, le-leb _ _ b) refl) ∙ ap done (omega arith));
        sized = rw e (omega arith);
        inside = h;
      }

  -- any scalar, where a char is not over 127
  pub spans_ends : (n : ℕ) → Spans (get_or m at 0) n → n ≤ 9 → at + n ≤ length m → length m ≤ limit → (get_or m at 0 * 2 + get_or m (at + 1) 0 / 128 ≡ 135 → ⊥)
      → get_or m (at + 1) 0 < 256 → ScalarEnds m at (at + n)
  unfolding width among when◌then◌else◌
  spans_ends n r few h l c b = go (eqb (get_or m at 0) 'C') refl
    where
      go : (x : Bool) → eqb (get_or m at 0) 'C' ≡ x → ScalarEnds m at (at + n)
      go true e =
          let k = eqb-true (get_or m at 0) 'C' e in
          let f = rw k at (r few) in
          let w : n ≡ 2 = f.1 in
          rw w (char_ends (omega (arith, w)) k (omega (arith, c, k)))
      go false e =
          let f = r few in
          sized_ends n (λ g. (f.0, eqb-false _ _ e, f.1)) h l

-- ---- texts and keys

module _ (m : List ℕ) (start : ℕ) where
  -- a number under `U`
  one_byte : (place next : ℕ) → next ≡ start + 1 → next ≤ length m → get_or m start 0 < 256 → number m limit 'U' place start ≡ done (get_or m start 0, next)
  unfolding width is_negative is_signed signed_integers among little bytes when◌then◌else◌
  one_byte place next e h b =
      let n : little (bytes m start 1) ≡ get_or m start 0 = omega (arith, little_front m start 0 (omega arith)) in
      number-done m limit 'U' place start (omega arith) refl (omega arith) ∙ rw (n, e) refl

  -- a payload below 128 is a text's
  letters_end : (n : ℕ) → start + n ≤ length m → all (λ b. leb b 127) (bytes m start n) ≡ true → payload_end m 'S' start n ≡ done (start + n)
  unfolding is_content when◌then◌else◌
  letters_end n h a = payload_done m 'S' start n h (letters_text _ a)

module _ (m : List ℕ) (at : ℕ) where
  -- `S`, `U`, a length and so many letters
  pub text_ends : get_or m at 0 ≡ 'S' → get_or m (at + 1) 0 ≡ 'U' → get_or m (at + 2) 0 < 256 → at + 3 + get_or m (at + 2) 0 ≤ length m
      → all (λ b. leb b 127) (bytes m (at + 3) (get_or m (at + 2) 0)) ≡ true → TextEnds m at (at + 3 + get_or m (at + 2) 0)
  unfolding is_integer integers among
  text_ends e u b h a =
      record {
        marked = e;
        long = let two : at + 1 + 1 ≡ at + 2 = omega arith in
            integer_number m _ (at + 1) (omega arith) (rw u refl) ∙ rw (u, two) (one_byte m (at + 2) (at + 1) (at + 3) (omega arith) (omega arith) b);
        right = letters_end m (at + 3) _ h a;
        sized = refl;
        inside = h;
      }

  -- the same without `S`
  pub key_ends : get_or m at 0 ≡ 'U' → get_or m (at + 1) 0 < 256 → at + 2 + get_or m (at + 1) 0 ≤ length m
      → all (λ b. leb b 127) (bytes m (at + 2) (get_or m (at + 1) 0)) ≡ true → KeyEnds m at (at + 2 + get_or m (at + 1) 0)
  key_ends u b h a =
      record {
        marked = u;
        long = one_byte m (at + 1) at (at + 2) (omega arith) (omega arith) b;
        right = letters_end m (at + 2) _ h a;
        sized = refl;
        inside = h;
      }
