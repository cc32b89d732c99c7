-- The cases of a text at a row, in the order of their tests, and the part that goes with a place. Assumes nothing.
use Prim.Native.Nat.{ℕ, ◌+◌, ◌≤◌, ◌<◌}
use mathlib.Core.Path.{◌≡◌, refl, sym, ap}
use mathlib.Core.Bool.{true, false, or-false}
use mathlib.Core.List.{List, []}
use native.Mathlib.Omega.{arith}
use lib.Dec.{eqb}
use lib.ListN.{length}
use borrow.Author.Tests.{lt-ltb, le-ltb, ne_eqb}
use Rattle.format.specs.Outcome.{Outcome, fault, done, ◌>>◌, guard}
use Rattle.format.specs.Refusals.{rows_dont_fit}
use Rattle.format.specs.Rows.{Row, row_at, rows_in}
use Rattle.format.specs.Bytes.{bytes, within}
use Rattle.format.specs.Addresses.{Region}
use Rattle.format.specs.TextAnswers.{is_text_row, text_at_row, part}
use Rattle.format.specs.Tokens as Tokens
use Rattle.format.specs.Tokens.{kind_number}
use Rattle.format.specs.Answers.{kind_of, first_and_width}
use Rattle.format.specs.declared.answers.Kind.{Kind}
use Rattle.format.specs.declared.answers.Kind.TheVariants.{Scalar, Text, HighPrecision, Key, Array, Object, Packed, Table, Leaf, SchemaRecord, FixedArray, Dimension, Extension}
use Rattle.texts.specs.Memory.{pointer}

-- ---- a text's kind and mark

-- a number that no kind has
pub no_kind : (r : Row) → ((k : Tokens.Kind) → kind_number k ≡ r.kind → ⊥) → false ≡ is_text_row r
unfolding is_text_row
no_kind r n = simp (ne_eqb r.kind 2 (λ e. n Tokens.text (sym e)), ne_eqb r.kind 3 (λ e. n Tokens.high_precision (sym e)), ne_eqb r.kind 4 (λ e. n Tokens.key (sym e)))

-- a text's, and the marks of the kinds of text
module _ (r : Row) where
  pub of_text : kind_number Tokens.text ≡ r.kind → eqb r.mark 83 ≡ is_text_row r
  unfolding is_text_row
  of_text e = rw (← e, or-false (eqb r.mark 83))

  pub of_high_precision : kind_number Tokens.high_precision ≡ r.kind → eqb r.mark 72 ≡ is_text_row r
  unfolding is_text_row
  of_high_precision e = rw (← e, or-false (eqb r.mark 72))

  pub of_key : kind_number Tokens.key ≡ r.kind → eqb r.mark 83 ≡ is_text_row r
  unfolding is_text_row
  of_key e = rw (← e)

  pub of_other : (k : Kind) → kind_number (kind_of k) ≡ r.kind → (k ≡ Text → ⊥) → (k ≡ HighPrecision → ⊥) → (k ≡ Key → ⊥) → false ≡ is_text_row r
  unfolding is_text_row
  of_other Text e n o p = absurd (n refl)
  of_other HighPrecision e n o p = absurd (o refl)
  of_other Key e n o p = absurd (p refl)
  of_other Scalar e n o p = rw (← e) refl
  of_other Array e n o p = rw (← e) refl
  of_other Object e n o p = rw (← e) refl
  of_other Packed e n o p = rw (← e) refl
  of_other Table e n o p = rw (← e) refl
  of_other Leaf e n o p = rw (← e) refl
  of_other SchemaRecord e n o p = rw (← e) refl
  of_other FixedArray e n o p = rw (← e) refl
  of_other Dimension e n o p = rw (← e) refl
  of_other Extension e n o p = rw (← e) refl

module _ (m ws : List ℕ) (row : ℕ) where
  pub no_row : rows_in ws ≤ row → fault rows_dont_fit 0 ≡ first_and_width (text_at_row m ws row)
  unfolding text_at_row first_and_width guard ◌>>◌
  no_row h = rw (le-ltb row (rows_in ws) h)

  module _ (there : row < rows_in ws) (r : Row) (read : r ≡ row_at ws row) where
    pub no_text : is_text_row r ≡ false → fault rows_dont_fit 0 ≡ first_and_width (text_at_row m ws row)
    unfolding text_at_row first_and_width guard ◌>>◌
    no_text e = rw (← read, lt-ltb row (rows_in ws) there, e)

    module _ (text : is_text_row r ≡ true) where
      pub outside : within (length m) r.payload r.extent ≡ false → fault rows_dont_fit 0 ≡ first_and_width (text_at_row m ws row)
      unfolding text_at_row first_and_width guard ◌>>◌
      outside e = rw (← read, lt-ltb row (rows_in ws) there, text, e)

      pub placed : within (length m) r.payload r.extent ≡ true → done (r.payload, r.extent) ≡ first_and_width (text_at_row m ws row)
      unfolding text_at_row first_and_width guard ◌>>◌
      placed e = rw (← read, lt-ltb row (rows_in ws) there, text, e)

-- ---- the part, and where it stands, by the place that was answered

module _ (m : List ℕ) (p : ℕ × ℕ) where
  pub no_part : (o : Outcome Region) (n : ℕ) → fault n 0 ≡ first_and_width o → ([] ≡ part m o) × (p ≡ pointer p o)
  unfolding first_and_width part pointer
  no_part (fault k q) n e = (refl, refl)
  no_part (done s) n e = let z : ◌≡◌ {A = ℕ} 0 1 = cc in absurd (omega arith)

  pub the_part : (o : Outcome Region) (first wide : ℕ) → done (first, wide) ≡ first_and_width o
      → (bytes m first wide ≡ part m o) × ((p.0, first + p.1) ≡ pointer p o)
  unfolding first_and_width part pointer
  the_part (fault k q) first wide e = let z : ◌≡◌ {A = ℕ} 0 1 = cc in absurd (omega arith)
  the_part (done s) first wide e =
      let q : ◌≡◌ {A = ℕ × ℕ} (first, wide) (s.first, s.wide) = cc in
      let a : first ≡ s.first = ap (λ x. x.0) q in
      let b : wide ≡ s.wide = ap (λ x. x.1) q in
      (rw (a, b), rw a)
