-- Demand 2, proved of every message that is accepted, whatever is lent. Assumes nothing.
use Prim.Native.Nat.{ℕ, suc, ◌+◌, ◌-◌, ◌*◌, ◌≤◌}
use mathlib.Core.Path.{◌≡◌, refl, sym, subst, ap, ◌∙◌}
use mathlib.Core.Bool.{false}
use mathlib.Core.List.{List, ◌++◌}
use mathlib.Core.Logic.{◌⊎◌, inl, inr}
use native.Mathlib.Omega.{arith}
use lib.ListN.{length}
use Rattle.format.specs.Grammars.{Grammar}
use Rattle.format.specs.Outcome.{fault, done}
use Rattle.format.specs.Refusals.{output_too_long}
use Rattle.format.specs.Tokens.{Kind, scalar, text, high_precision, key, array, object, packed, table, leaf, schema_record, fixed_array, dimension, extension, Token, is_kind, Forest, size}
use Rattle.format.specs.Rows.{Row, outermost, held_by, row_words, row_at, rows_in, row_of, all_words, zeros, filled}
use Rattle.format.specs.Read.{read, read_into, rows_used, words_after}
use Rattle.format.specs.HouseForm.{house, output_after, rewrite_words_after}
use Rattle.laws.specs.Places.{At, here, under, later}
use Rattle.laws.proofs.Holds.{of_done}
use Rattle.laws.proofs.Order.{is_offset, InOrder, stop, step, order_size}
use Rattle.laws.proofs.Bounds.{read_bounded}
use Rattle.laws.proofs.Reading.{first_bytes_rise}
use Rattle.storage.specs.Places.{Top, Rowed}
use Rattle.storage.proofs.Places.{rowed_at, rowed_top, at_exists, read_fills, filled_rows}
use Rattle.meaning.specs.Rewriting.{Rewritten, InHouseForm}
use Rattle.meaning.proofs.RoundTrip.{round_trip, house_settles}
use Rattle.meaning.proofs.Rewriting.{rewrite_again}
use Rattle.meaning.proofs.Canonical.{meaning_by_house}
use Rattle.demands.specs.Reads.{after_reading}
use Rattle.demands.specs.Rewrites.{rewrite_into}
use Rattle.demands.specs.Demand2.{InRecord, Listed, Fits, Rewrote, Demand2}
use Rattle.demands.proofs.Demand1.{length_all_words, as_lent}
use Rattle.demands.proofs.RowsNeeded.{rows_enough}
use Rattle.demands.proofs.Rewrites.{rewrite_settles, rewrite_form}

-- ---- what is listed

-- the kinds that have an offset in a record
in_record : (kind : Kind) → (is_offset kind ≡ false) ⊎ InRecord kind
unfolding is_offset is_kind
in_record scalar = inl refl
in_record text = inl refl
in_record high_precision = inl refl
in_record key = inl refl
in_record array = inl refl
in_record object = inl refl
in_record packed = inl refl
in_record table = inl refl
in_record leaf = inr (inl refl)
in_record schema_record = inr (inr (inl refl))
in_record fixed_array = inr (inr (inr refl))
in_record dimension = inl refl
in_record extension = inl refl

-- the payload of a token that has no offset lies between the bounds of the tokens
payload_between : {low high n k : ℕ} {t : Token} {f v : Forest} → InOrder low high f → At n f k t v → is_offset t.kind ≡ false
    → (t.first ≤ t.payload) × (t.payload + t.extent ≤ high)
payload_between (stop _) x c = elim x [ ]
payload_between (step h u r a) here c = let i = r.inside c in let y = order_size a in (i.0, omega arith)
payload_between (step h u r a) (under x) c = let i = payload_between u x c in let y = order_size a in let z = r.on in (i.0, omega arith)
payload_between (step h u r a) (later x) c = payload_between a x c

module _ (m lent : List ℕ) (grammar : Grammar) (f : Forest) (accepted : read_into m lent grammar ≡ done f) where
  -- what the reader's contract says, of the rows that the words have
  read_is : read m (rows_in lent) grammar ≡ done f
  unfolding read_into
  read_is = accepted

  inside : (row : ℕ) (t : Token) (below : Forest) → At 0 f row t below → (InRecord t.kind → ⊥) → (t.first ≤ t.payload) × (t.payload + t.extent ≤ length m)
  inside row t below x c = elim (in_record t.kind) [
    | inl e ↦ payload_between (of_done f (read_bounded m (rows_in lent) grammar) read_is).1 x e
    | inr i ↦ absurd (c i)
  ]

  -- the rows, and then zeros
  words_filled : after_reading m lent grammar ≡ all_words f ++ zeros (length lent - length (all_words f))
  unfolding words_after filled
  words_filled = rw accepted

  words_are : after_reading m lent grammar ≡ all_words f ++ zeros (length (after_reading m lent grammar) - size f * row_words)
  words_are =
      let q : length lent - length (all_words f) ≡ length (after_reading m lent grammar) - size f * row_words =
      omega (arith, length_all_words f, as_lent m lent grammar) in
      words_filled ∙ ap (λ n. all_words f ++ zeros n) q

  -- every token's row is there, with its ancestry
  rowed : Rowed (after_reading m lent grammar) 0 outermost f
  rowed = filled_rows f (after_reading m lent grammar) (rw accepted (read_fills (length lent) f))

  outermost_row : (row : ℕ) (t : Token) (below : Forest) → Top 0 f row t below → ((row_at (after_reading m lent grammar) row).parent ≡ 0) × ((row_at (after_reading m lent grammar) row).depth ≡ 0)
  unfolding row_of
  outermost_row row t below x = let e = (rowed_top rowed x).0 in (ap (λ (r : Row). r.parent) e, ap (λ (r : Row). r.depth) e)

  held_row : (row : ℕ) (t : Token) (below : Forest) → At 0 f row t below → (k : ℕ) (u : Token) (v : Forest) → Top (suc row) below k u v
      → ((row_at (after_reading m lent grammar) k).parent ≡ row + 1) × ((row_at (after_reading m lent grammar) k).depth ≡ (row_at (after_reading m lent grammar) row).depth + 1)
  unfolding row_of held_by
  held_row row t below x k u v y =
      let r = rowed_at rowed x in
      let e = (rowed_top r.2 y).0 in
      (ap (λ (r : Row). r.parent) e, ap (λ (r : Row). r.depth) e ∙ sym (ap (λ (r : Row). r.depth + 1) r.1))

  pub listed : Listed m (after_reading m lent grammar) f
  listed = record {
    words = words_are;
    rows = λ row t below x. let r = rowed_at rowed x in (r.0, r.1);
    outermost_row = outermost_row;
    held_row = held_row;
    tokens = λ row l. at_exists f 0 row (omega arith) (omega arith);
    in_order = first_bytes_rise m (rows_in lent) grammar f read_is;
    payload_inside = inside;
  }

-- ---- what is written

module _ (m lent output : List ℕ) (grammar : Grammar) (f : Forest) (accepted : read_into m lent grammar ≡ done f) where
  rewrote : (h : List ℕ) → rewrite_into m lent output grammar ≡ done h → Rewrote m lent output grammar f h
  unfolding output_after rewrite_words_after
  rewrote h e =
      let w = rewrite_form m lent output grammar f accepted h e in
      let fits = w.1.1 in record {
        form = w.0;
        same_meaning = subst (Rewritten m f (rows_in lent) grammar) (sym w.0) (round_trip m (rows_in lent) grammar f (read_is m lent grammar f accepted) fits);
        in_house_form = subst (λ x. InHouseForm x (rows_in lent) grammar) (sym w.0) (house_settles m (rows_in lent) grammar f (read_is m lent grammar f accepted) fits);
        again = rewrite_again m h (rows_in lent) grammar (length output) e;
        output_holds = ap (output_after (length output)) e;
        words_hold = ap (rewrite_words_after (length lent) (read_into m lent grammar)) e;
      }

  fitting : Fits (length (house m f)) output → rewrite_into m lent output grammar ≡ done (house m f)
  fitting l = elim (rewrite_settles m lent output grammar f accepted) [ inl s ↦ s.0 | inr s ↦ absurd (s.1 l) ]

  too_long : (Fits (length (house m f)) output → ⊥) → rewrite_into m lent output grammar ≡ fault output_too_long 0
  too_long l = elim (rewrite_settles m lent output grammar f accepted) [ inl s ↦ absurd (l s.1) | inr s ↦ s.0 ]

  -- all of it
  holds : Demand2 m lent output grammar f
  unfolding read_into rows_used
  holds = record {
    used = ap rows_used accepted;
    listed = listed m lent grammar f accepted;
    elsewhere = λ lent' l. rows_enough m (rows_in lent) grammar f (read_is m lent grammar f accepted) (rows_in lent') (omega arith);
    fitting = fitting;
    too_long = too_long;
    rewrote = rewrote;
    one_form = λ fits m' lent' f' e. meaning_by_house m m' (rows_in lent) (rows_in lent') grammar f f' (read_is m lent grammar f accepted) e fits;
  }

-- Demand 2, of every message that is accepted, whatever is lent.
pub demand2 : (m lent output : List ℕ) (grammar : Grammar) (f : Forest) → read_into m lent grammar ≡ done f → Demand2 m lent output grammar f
demand2 = holds
