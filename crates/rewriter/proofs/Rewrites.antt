-- The cases of rewriting: the reader's refusal, 11, and the house form. Assumes nothing.
use Prim.Native.Nat.{ℕ, ◌≤◌}
use mathlib.Core.Path.{◌≡◌, refl, sym, ap, subst, ◌∙◌}
use mathlib.Core.List.{List}
use native.Mathlib.Omega.{arith}
use lib.ListN.{length, take}
use lib.Seq.{sets-eq, take_at}
use lib.Dec.{leb}
use borrow.Author.Tests.{leb-true}
use Rattle.format.specs.Outcome.{Outcome, fault, done, ◌>>=◌, ◌>>◌, guard}
use Rattle.format.specs.Refusals.{output_too_long}
use Rattle.format.specs.Tokens.{Forest, size}
use Rattle.format.specs.Rows.{outermost, rows_in, zeros, filled}
use Rattle.format.specs.Read.{read, read_into, rows_used, words_after}
use Rattle.format.specs.Grammars.{Grammar}
use Rattle.format.specs.HouseForm.{house, rewrite, bytes_written, output_after, rewrite_words_after}
use Rattle.format.proofs.Tests.{both_true}
use Rattle.laws.proofs.Holds.{of_done}
use Rattle.laws.proofs.Reading.{rows_few}
use Rattle.storage.specs.Places.{Filled}
use Rattle.storage.proofs.Places.{read_fills, filled_rows, filled_enough}
use Rattle.meaning.proofs.Accepting.{read_finds}
use Rattle.pieces.specs.Puts.{Puts}
use Rattle.forests.specs.Held.{Held, Room}
use Rattle.forests.specs.Settled.{fits_in, Settled, fitting, too_long}
use Rattle.rows.specs.Clearing.{cleared_from}
use Rattle.rewriter.proofs.Forms.{accepted_formed}

-- tokens were read, of so many rows
pub record Accepts (o : Outcome Forest) (used : ℕ) : Type 0 where
  pub tokens : Forest
  pub read : o ≡ done tokens
  pub rows_used : used ≡ size tokens

pub accepts : (o : Outcome Forest) (used : ℕ) → done used ≡ rows_used o → Accepts o used
unfolding rows_used
accepts (fault n p) used e = let z : ◌≡◌ {A = ℕ} 0 1 = cc in absurd (omega arith)
accepts (done f) used e = record { tokens = f; read = refl; rows_used = cc }

pub refuses : (o : Outcome Forest) (n p : ℕ) → fault n p ≡ rows_used o → o ≡ fault n p
unfolding rows_used
refuses (fault a b) n p e = cc
refuses (done f) n p e = let z : ◌≡◌ {A = ℕ} 0 1 = cc in absurd (omega arith)

module _ (m ws : List ℕ) (grammar : Grammar) where
  -- what reading leaves in the words are the rows of tokens that are written as their rows say
  pub held_read : (used : ℕ) (after : List ℕ) → after ≡ words_after (length ws) (read_into m ws grammar) → (a : Accepts (read_into m ws grammar) used) → Held after 0 used
  unfolding read_into rows_in
  held_read used after e a =
      let f = a.tokens in
      let q : after ≡ words_after (length ws) (done f) = e ∙ ap (words_after (length ws)) a.read in
      let full = subst (λ l. Filled f l) (sym q) (read_fills (length ws) f) in
      let h = of_done f (read_finds m (rows_in ws) grammar) a.read in
      record {
        tokens = f;
        formed = accepted_formed h.1;
        ancestry = outermost;
        rowed = filled_rows f after full;
        ends = let u = a.rows_used in omega arith;
        inside = let u = a.rows_used in omega (arith, filled_enough f after full);
      }

  pub room_read : (used : ℕ) → Accepts (read_into m ws grammar) used → Room m 0 0 used
  unfolding read_into
  room_read used a =
      let h = of_done a.tokens (read_finds m (rows_in ws) grammar) a.read in
      let k = rows_few m (rows_in ws) grammar a.tokens a.read in
      let u = a.rows_used in
      record { short = h.0; low = omega (arith, h.0, k.0) }

  -- ---- the three answers

  module _ (room : ℕ) where
    abbrev answer : Outcome (List ℕ)
    answer = rewrite m (rows_in ws) grammar room

    -- what the call answers, and what it leaves in output and words
    pub record Leaves (o : Outcome ℕ) (output words : List ℕ) : Type 0 where
      pub answers : o ≡ bytes_written answer
      pub output_is : output ≡ output_after room answer
      pub words_are : words ≡ rewrite_words_after (length ws) (read_into m ws grammar) answer

    leaves_fault : (n p : ℕ) (output words : List ℕ) → answer ≡ fault n p → output ≡ zeros room → words ≡ zeros (length ws) → Leaves (fault n p) output words
    unfolding bytes_written output_after rewrite_words_after
    leaves_fault n p output words e o w = record { answers = rw e; output_is = rw e o; words_are = rw e w }

    pub refused : (n p : ℕ) (output words : List ℕ) → fault n p ≡ rows_used (read_into m ws grammar) → output ≡ zeros room → words ≡ words_after (length ws) (read_into m ws grammar)
        → Leaves (fault n p) output words
    unfolding read_into rewrite words_after ◌>>=◌
    refused n p output words e o w =
        let r = refuses (read_into m ws grammar) n p e in
        leaves_fault n p output words (rw r) o (rw r at w)

  -- the bytes that were put are the house form, and where it fits nothing else is left in the output
  module _ (before after : List ℕ) (used end : ℕ) (rows : List ℕ) (a : Accepts (read_into m ws grammar) used) (w : rows ≡ words_after (length ws) (read_into m ws grammar)) (kept : length rows ≡ length ws)
      (puts : (h : Held rows 0 used) → Puts before after 0 end (house m h.tokens)) where
    put_all : Puts before after 0 end (house m a.tokens)
    unfolding held_read
    put_all = puts (held_read used rows w a)

    ends : end ≡ length (house m a.tokens)
    ends = put_all.reach ∙ omega arith

    only_house : end ≤ length before → cleared_from after end ≡ filled (length before) (house m a.tokens)
    unfolding filled
    only_house h =
        let x = house m a.tokens in
        let s = put_all.there h ∙ sets-eq x before 0 (let e = ends in omega arith) in
        let front : take end after ≡ x = ap (take end) s ∙ take_at x _ end (sym ends) in
        rw (front, put_all.kept, ends)

    pub settled : {o : Outcome ℕ} {words output : List ℕ} → Settled end rows after o words output → Leaves (length before) o output words
    unfolding read_into rewrite guard fits_in bytes_written output_after rewrite_words_after ◌>>=◌ ◌>>◌
    settled (fitting t e) =
        let k = rw put_all.kept at t in
        let is : answer (length before) ≡ done (house m a.tokens) = rw (a.read, ← ends, k) in
        record {
          answers = rw (is, ends);
          output_is = rw is (e ∙ only_house (leb-true end (length before) (both_true (leb end (length before)) _ k).0));
          words_are = rw is w;
        }
    settled {words = words} {output = output} (too_long t z e) =
        leaves_fault (length before) output_too_long 0 output words (rw (a.read, ← ends, rw put_all.kept at t)) (rw put_all.kept at e) (rw kept at z)
