-- A loop over tokens, whatever they are: what was read so far lies in the words, and the whole is that and what remains. One law
-- each for the start, a step, a fault and the end serves every loop. Assumes nothing.
use Prim.Native.Nat.{ℕ, ◌+◌}
use mathlib.Core.Path.{◌≡◌, refl, sym, ap, ◌∙◌}
use mathlib.Core.List.{List}
use native.Mathlib.Omega.{arith}
use Rattle.format.specs.Outcome.{Parsed, fault, done, ◌>>=◌}
use Rattle.format.specs.Tokens.{Forest, none, size, ◌⊕◌, members}
use Rattle.format.specs.Rows.{Ancestry, rows}
use Rattle.format.specs.Sequences.{Reader, ◌⨾◌}
use Rattle.format.proofs.Forests.{append_none, ⊕-assoc, size_append, members_append, length-rows, rows_append}
use Rattle.rows.specs.Overlay.{lay}
use Rattle.rows.proofs.Overlay.{lay_append}
use Rattle.tokens.specs.Answers.{onto, Laid, Meets}
use Rattle.std.specs.Prelude.{Result, Ok, Err}
use Rattle.format.specs.declared.refusals.Refused.{Refused}
use Rattle.tokens.specs.declared.End.{End}

-- the rows of one forest and then those of another
pub lay_forest : (ws : List ℕ) (row : ℕ) (a : Ancestry) (f g : Forest)
    → lay (lay ws row (rows row a f)) (row + size f) (rows (row + size f) a g) ≡ lay ws row (rows row a (f ⊕ g))
lay_forest ws row a f g =
    ap (λ k. lay (lay ws row (rows row a f)) (row + k) (rows (row + size f) a g)) (sym (length-rows row a f))
    ∙ lay_append ws row (rows row a f) (rows (row + size f) a g)
    ∙ ap (λ l. lay ws row l) (sym (rows_append row a f g))

-- ---- what remains

pub onto-none : (o : Parsed Forest) → onto none o ≡ o
unfolding onto ◌>>=◌ ◌⊕◌
onto-none (fault n p) = refl
onto-none (done r) = refl

pub onto-onto : (f g : Forest) (o : Parsed Forest) → onto f (onto g o) ≡ onto (f ⊕ g) o
unfolding onto ◌>>=◌
onto-onto f g (fault n p) = refl
onto-onto f g (done r) = rw (⊕-assoc f g r.0)

pub onto-fault : (f : Forest) (o : Parsed Forest) (n p : ℕ) → o ≡ fault n p → onto f o ≡ fault n p
unfolding onto ◌>>=◌
onto-fault f o n p e = rw e

-- one is read, and another remains
pub seq_read : (item rest : Reader) (at row next : ℕ) (f : Forest) → item at row ≡ done (f, next) → (item ⨾ rest) at row ≡ onto f (rest next (row + size f))
unfolding ◌⨾◌ ◌>>=◌ onto
seq_read item rest at row next f e = rw e

pub seq_fault : (item rest : Reader) (at row n p : ℕ) → item at row ≡ fault n p → (item ⨾ rest) at row ≡ fault n p
unfolding ◌⨾◌ ◌>>=◌
seq_fault item rest at row n p e = rw e

pub record Sofar (whole : Parsed Forest) (first : ℕ) (ancestry : Ancestry) (before : List ℕ) (remains : Parsed Forest) (row count : ℕ) (now : List ℕ) : Type 0 where
  pub forest : Forest
  pub is : whole ≡ onto forest remains
  pub counted : members forest ≡ count
  pub took : row ≡ first + size forest
  pub lie : now ≡ lay before first (rows first ancestry forest)

-- nothing is read yet
pub sofar_start : (o : Parsed Forest) (first : ℕ) (ancestry : Ancestry) (before : List ℕ) → Sofar o first ancestry before o first 0 before
unfolding size members rows lay
sofar_start o first ancestry before = record { forest = none; is = sym (onto-none o); counted = refl; took = omega arith; lie = refl }

module _ {whole : Parsed Forest} {first : ℕ} {ancestry : Ancestry} {before : List ℕ} {remains : Parsed Forest} {row count : ℕ} {now : List ℕ}
    (s : Sofar whole first ancestry before remains row count now) where
  -- what remains is said otherwise
  pub sofar_as : (o : Parsed Forest) → remains ≡ o → Sofar whole first ancestry before o row count now
  sofar_as o e = record { forest = s.forest; is = rw e at s.is; counted = s.counted; took = s.took; lie = s.lie }

  -- one more is read
  pub sofar_step : (item rest : Reader) (at next row' k : ℕ) (after : List ℕ) → remains ≡ (item ⨾ rest) at row → Laid (item at row) row k ancestry now after next row'
      → Sofar whole first ancestry before (rest next row') row' (count + k) after
  sofar_step item rest at next row' k after e l =
      let f = s.forest in
      let g = l.forest in
      let q : remains ≡ onto g (rest next (row + size g)) = e ∙ seq_read item rest at row next g l.read in
      record {
        forest = f ⊕ g;
        is = s.is ∙ rw (q, ← l.took) (onto-onto f g (rest next row'));
        counted = members_append f g ∙ omega (arith, s.counted, l.counted);
        took = omega (arith, s.took, l.took, size_append f g);
        lie = l.lie ∙ rw (s.lie, s.took) (lay_forest before first ancestry f g);
      }

  -- one more is refused
  pub sofar_fault : (n p : ℕ) → remains ≡ fault n p → whole ≡ fault n p
  unfolding onto ◌>>=◌
  sofar_fault n p e = s.is ∙ rw e

  -- there is no more
  pub sofar_end : (end : ℕ) → remains ≡ done (none, end) → Laid whole first count ancestry before now end row
  unfolding onto ◌>>=◌
  sofar_end end e =
      record { forest = s.forest; read = s.is ∙ rw (e, append_none s.forest); counted = s.counted; took = s.took; lie = s.lie }

-- ---- one is read, and then another

-- what is read after tokens that lie already
pub laid_after : {b : Parsed Forest} {row j k row' end row'' : ℕ} {ancestry : Ancestry} {before mid after : List ℕ} (f : Forest)
    → members f ≡ j → row' ≡ row + size f → mid ≡ lay before row (rows row ancestry f) → Laid b row' k ancestry mid after end row''
    → Laid (onto f b) row (j + k) ancestry before after end row''
unfolding onto ◌>>=◌
laid_after {row = row} {ancestry = ancestry} {before = before} f counted took lie h =
    record {
      forest = f ⊕ h.forest;
      read = rw h.read;
      counted = members_append f h.forest ∙ omega (arith, counted, h.counted);
      took = omega (arith, took, h.took, size_append f h.forest);
      lie = h.lie ∙ rw (lie, took) (lay_forest before row ancestry f h.forest);
    }

pub laid_onto : {a b : Parsed Forest} {row j k next row' end row'' : ℕ} {ancestry : Ancestry} {before mid after : List ℕ} (l : Laid a row j ancestry before mid next row') → Laid b row' k ancestry mid after end row''
    → Laid (onto l.forest b) row (j + k) ancestry before after end row''
laid_onto l h = laid_after l.forest l.counted l.took l.lie h

-- two readers one after another, where the first has read
pub seq_meets : (r : Result End Refused) (item rest : Reader) (at row j next row' k : ℕ) (ancestry : Ancestry) (before mid after : List ℕ) → Laid (item at row) row j ancestry before mid next row'
    → Meets r (rest next row') row' k ancestry mid after → Meets r ((item ⨾ rest) at row) row (j + k) ancestry before after
seq_meets (Err r) item rest at row j next row' k ancestry before mid after l e =
    seq_read item rest at row next l.forest l.read ∙ rw (← l.took) (onto-fault l.forest _ _ _ e)
seq_meets (Ok e) item rest at row j next row' k ancestry before mid after l h =
    rw (seq_read item rest at row next l.forest l.read, ← l.took) (laid_onto l h)
