-- The rows that a message needs, for all messages. Assumes nothing.
use Prim.Native.Nat.{ℕ, ◌≤◌, ◌<◌}
use mathlib.Core.Path.{◌≡◌, refl, sym, ap, ◌∙◌}
use mathlib.Core.List.{List}
use native.Mathlib.Omega.{arith}
use lib.ListN.{length}
use Rattle.format.specs.Grammars.{Grammar, new}
use Rattle.format.specs.Outcome.{Outcome, fault, done}
use Rattle.format.specs.Refusals.{no_row_left}
use Rattle.format.specs.Tokens.{Token, Forest, size}
use Rattle.format.specs.Rows.{rows_in}
use Rattle.format.specs.Read.{read, read_whole, read_into, rows_used}
use Rattle.format.specs.Panel.{rows_needed}
use Rattle.laws.specs.Places.{At}
use Rattle.laws.proofs.OtherRows.{Lent, held, lacking, read_lent}
use Rattle.laws.proofs.Reading.{rows_few}
use Rattle.storage.proofs.Places.{at_size}
use Rattle.demands.specs.RowsNeeded.{NoRow, RowsNeeded}

-- ---- an accepted message, read with another number of rows

module _ (m : List ℕ) (rows_lent : ℕ) (grammar : Grammar) (f : Forest) (accepted : read m rows_lent grammar ≡ done f) (rows : ℕ) where
  other_rows : Lent rows (λ f. f) 0 (read m rows grammar) (done f)
  other_rows = rw accepted at (read_lent rows rows_lent m grammar)

  -- rows for all tokens are enough
  pub rows_enough : size f ≤ rows → read m rows grammar ≡ done f
  rows_enough l = go other_rows l
    where
      go : {o : Outcome Forest} {f : Forest} → Lent rows (λ f. f) 0 o (done f) → size f ≤ rows → o ≡ done f
      go (held h) l = refl
      go (lacking x e) l = let i = at_size x in absurd (omega arith)

  -- the token at the first row that is missing
  pub row_missing : rows < size f → (t : Token) × (below : Forest) × At 0 f rows t below × (read m rows grammar ≡ fault no_row_left t.first)
  row_missing l = go other_rows l
    where
      go : {o : Outcome Forest} {f : Forest} → Lent rows (λ f. f) 0 o (done f) → rows < size f
          → (t : Token) × (below : Forest) × At 0 f rows t below × (o ≡ fault no_row_left t.first)
      go (held h) l = absurd (omega arith)
      go (lacking {t = t} {v = v} x e) l = (t, v, x, ap (fault no_row_left) (sym e))

-- ---- the rows that it was said to need

used_done : (o : Outcome Forest) (n : ℕ) → rows_used o ≡ done n → (f : Forest) × (o ≡ done f) × (size f ≡ n)
unfolding rows_used
used_done (fault k p) n e = let z : ◌≡◌ {A = ℕ} 0 1 = cc in absurd (omega arith)
used_done (done f) n e = (f, refl, cc)

module _ (m : List ℕ) (grammar : Grammar) (n : ℕ) (f : Forest) (accepted : read m (length m) grammar ≡ done f) (counted : size f ≡ n) where
  no_row : (lent : List ℕ) → rows_in lent < n → NoRow m lent grammar f (rows_in lent)
  unfolding read_into
  no_row lent l =
      let x = row_missing m (length m) grammar f accepted (rows_in lent) (omega arith) in
      record { token = x.0; below = x.1; stands = x.2; refused = x.3 }

  used_same : (lent : List ℕ) (g : Forest) → read_into m lent grammar ≡ done g → rows_used (read_into m lent grammar) ≡ done n
  unfolding read_into rows_used
  used_same lent g e =
      let w = rows_enough m (rows_in lent) grammar g e (length m) (rows_few m (rows_in lent) grammar g e).0 in
      let q : g ≡ f = cc in
      rw e (ap (λ x. done (size x)) q ∙ ap done counted)

  needed : RowsNeeded m grammar n
  unfolding read_whole read_into
  needed = record {
    tokens = f;
    whole = accepted;
    counted = counted;
    enough = λ lent l. rows_enough m (length m) grammar f accepted (rows_in lent) (omega arith);
    too_few = no_row;
    used = used_same;
  }

-- The rows that a message needs are enough, and fewer aren't.
pub rows_needed_lem : (m : List ℕ) (grammar : Grammar) (n : ℕ) → rows_used (read_whole m grammar) ≡ done n → RowsNeeded m grammar n
unfolding read_whole
rows_needed_lem m grammar n e = let x = used_done (read_whole m grammar) n e in needed m grammar n x.0 x.1 x.2

-- So are those that the panel is answered.
pub panel_rows_needed : (m : List ℕ) (n : ℕ) → rows_needed m ≡ done n → RowsNeeded m new n
panel_rows_needed m n e = rows_needed_lem m new n e
