-- The cases of a whole message, and what the lent words hold at the end. Assumes nothing.
use Prim.Native.Nat.{ℕ, ◌*◌, ◌≤◌, ◌<◌}
use mathlib.Core.Path.{◌≡◌, sym, ◌∙◌}
use mathlib.Core.List.{List}
use native.Mathlib.Omega.{arith}
use lib.ListN.{length}
use borrow.Author.Tests.{le-leb, lt-leb, eq-eqb, ne_eqb}
use Rattle.format.specs.Grammars.{Grammar}
use Rattle.format.specs.Outcome.{Outcome, fault, done, ◌>>=◌, ◌>>◌, guard}
use Rattle.format.specs.Limits.{limit, value_levels}
use Rattle.format.specs.Refusals.{message_too_long, bytes_after}
use Rattle.format.specs.Marks.{bracket}
use Rattle.format.specs.Tokens.{Forest}
use Rattle.format.specs.Rows.{row_words, outermost, rows, all_rows, all_words, zeros}
use Rattle.format.specs.Bytes.{skip}
use Rattle.format.specs.Containers.{items}
use Rattle.format.specs.Read.{read, rows_used, words_after}
use Rattle.format.proofs.Forests.{length-rows}
use Rattle.rows.specs.Clearing.{cleared_from}
use Rattle.rows.proofs.Overlay.{lay_cleared}
use Rattle.tokens.specs.Answers.{Laid}
use Rattle.items.specs.Headers.{member_of}
use Rattle.std.specs.Prelude.{Result, Ok, Err}
use Rattle.format.specs.Answers.{answered}
use Rattle.format.specs.declared.refusals.Refused.{Refused}
use Rattle.reader.specs.Message.{Lies, WholeMeets, front_words}

module _ (m : List ℕ) (lent : ℕ) (grammar : Grammar) where
  pub read_long : limit < length m → read m lent grammar ≡ fault message_too_long 0
  unfolding read guard ◌>>◌
  read_long h = rw (lt-leb _ _ h)

  module _ (short : length m ≤ limit) where
    pub read-fault : (n p : ℕ) → member_of m lent grammar value_levels bracket (skip m 0) 0 ≡ fault n p → read m lent grammar ≡ fault n p
    unfolding read guard ◌>>◌ ◌>>=◌ member_of items
    read-fault n p e = rw (le-leb _ _ short, e)

    module _ (f : Forest) (next : ℕ) (value : member_of m lent grammar value_levels bracket (skip m 0) 0 ≡ done (f, next)) where
      pub read_more : (skip m next ≡ length m → ⊥) → read m lent grammar ≡ fault bytes_after (skip m next)
      unfolding read guard ◌>>◌ ◌>>=◌ member_of items
      read_more h = rw (le-leb _ _ short, value, ne_eqb _ _ h)

      pub read_done : skip m next ≡ length m → read m lent grammar ≡ done f
      unfolding read guard ◌>>◌ ◌>>=◌ member_of items
      read_done h = rw (le-leb _ _ short, value, eq-eqb _ _ h)

    pub read_lies : (next row : ℕ) (before after : List ℕ) → Laid (member_of m lent grammar value_levels bracket (skip m 0) 0) 0 1 outermost before after next row
        → skip m next ≡ length m → Lies (read m lent grammar) before after row
    unfolding all_rows
    read_lies next row before after l h =
        record { forest = l.forest; read = read_done l.forest next l.read h; took = omega (arith, l.took); lie = l.lie }

-- ---- the answer, and the words

pub used : (o : Outcome Forest) (before after : List ℕ) (row : ℕ) → Lies o before after row → done row ≡ rows_used o
unfolding rows_used
used o before after row l = rw (l.read, l.took)

pub refused : (o : Outcome Forest) (n p : ℕ) → o ≡ fault n p → fault n p ≡ rows_used o
unfolding rows_used
refused o n p e = rw e

-- the core's answer
pub answers : (r : Result ℕ Refused) (o : Outcome Forest) (before after : List ℕ) → WholeMeets r o before after → answered r ≡ rows_used o
answers (Err r) o before after e = refused o _ _ e
answers (Ok row) o before after l = used o before after row l

pub words_filled : (o : Outcome Forest) (before after : List ℕ) (row : ℕ) → Lies o before after row → row * row_words ≤ length before → cleared_from after (row * row_words) ≡ words_after (length before) o
unfolding words_after all_words all_rows
words_filled o before after row l h =
    let n : row ≡ length (rows 0 outermost l.forest) = omega (arith, length-rows 0 outermost l.forest, l.took) in
    rw (l.read, l.lie, n) (lay_cleared before (rows 0 outermost l.forest) (omega arith))

pub words_zero : (o : Outcome Forest) (words n p : ℕ) → o ≡ fault n p → zeros words ≡ words_after words o
unfolding words_after
words_zero o words n p e = rw e

-- ---- the first rows

pub front_filled : (o : Outcome Forest) (words : ℕ) (after : List ℕ) (row : ℕ) → Lies o (zeros words) after row → after ≡ front_words words o
unfolding front_words
front_filled o words after row l = l.lie ∙ sym (rw l.read)

pub front_zero : (o : Outcome Forest) (words n p : ℕ) → o ≡ fault n p → zeros words ≡ front_words words o
unfolding front_words
front_zero o words n p e = rw e
