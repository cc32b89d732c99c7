-- Demand 1, proved of every message and all lent words and bytes. Assumes nothing.
use Prim.Native.Nat.{ℕ, ◌-◌, ◌*◌, ◌≤◌}
use mathlib.Core.Path.{◌≡◌, refl}
use mathlib.Core.List.{List}
use mathlib.Core.Logic.{inl, inr}
use native.Mathlib.Omega.{arith}
use lib.ListN.{length, length-append, length-replicate}
use Rattle.format.specs.Grammars.{Grammar}
use Rattle.format.specs.Outcome.{Outcome, fault, done, ◌>>=◌}
use Rattle.format.specs.Refusals.{output_too_long}
use Rattle.format.specs.Tokens.{Forest, size}
use Rattle.format.specs.Rows.{row_words, rows_in, all_rows, all_words, zeros, filled}
use Rattle.format.specs.Read.{read, read_into, words_after}
use Rattle.format.specs.HouseForm.{house, rewrite, output_after, rewrite_words_after}
use Rattle.format.proofs.RowWords.{length_words}
use Rattle.laws.specs.Refusal.{Refusal}
use Rattle.laws.proofs.Faults.{fault_placed}
use Rattle.laws.proofs.Reading.{rows_are_tokens, rows_few}
use Rattle.demands.specs.Reads.{after_reading}
use Rattle.demands.specs.Rewrites.{rewrite_into, words_after_rewriting, output_after_rewriting}
use Rattle.demands.specs.Demand1.{RewriteRefusal, of_reading, of_output, Answered, accepted, refused, Demand1}
use Rattle.demands.proofs.Rewrites.{rewrite_settles}

-- ---- lent words and bytes

-- what is filled is as long as it was, if it holds what is put there
length-filled : (lent : ℕ) (front : List ℕ) → length front ≤ lent → length (filled lent front) ≡ lent
unfolding filled
length-filled lent front l = omega (arith, length-append front (zeros (lent - length front)), length-replicate {A = ℕ} (lent - length front) 0)

-- a forest has the words of a row for each token
pub length_all_words : (f : Forest) → length (all_words f) ≡ size f * row_words
unfolding all_words
length_all_words f = omega (arith, length_words (all_rows f), rows_are_tokens f)

words_refused : (words : ℕ) (o : Outcome Forest) (n p : ℕ) → o ≡ fault n p → words_after words o ≡ zeros words
unfolding words_after
words_refused words o n p e = rw e

output_refused : (room : ℕ) (o : Outcome (List ℕ)) (n p : ℕ) → o ≡ fault n p → output_after room o ≡ zeros room
unfolding output_after
output_refused room o n p e = rw e

rows_refused : (words : ℕ) (tokens : Outcome Forest) (o : Outcome (List ℕ)) (n p : ℕ) → o ≡ fault n p → rewrite_words_after words tokens o ≡ zeros words
unfolding rewrite_words_after
rows_refused words tokens o n p e = rw e

-- ---- reading

module _ (m lent : List ℕ) (grammar : Grammar) where
  answered : Answered (Refusal m) (read_into m lent grammar)
  unfolding read_into
  answered = go (read m (rows_in lent) grammar) refl
    where
      go : (o : Outcome Forest) → read m (rows_in lent) grammar ≡ o → Answered (Refusal m) o
      go (fault n p) e = refused (fault_placed m (rows_in lent) grammar n p e)
      go (done f) e = accepted f

  pub as_lent : length (after_reading m lent grammar) ≡ length lent
  unfolding read_into words_after rows_in
  as_lent = go (read m (rows_in lent) grammar) refl
    where
      go : (o : Outcome Forest) → read m (rows_in lent) grammar ≡ o → length (words_after (length lent) o) ≡ length lent
      go (fault n p) e = length-replicate {A = ℕ} (length lent) 0
      go (done f) e = let k = (rows_few m (rows_in lent) grammar f e).1 in length-filled (length lent) (all_words f) (omega (arith, length_all_words f))

-- ---- rewriting

module _ (m lent output : List ℕ) (grammar : Grammar) where
  alike : (n place : ℕ) → read_into m lent grammar ≡ fault n place → rewrite_into m lent output grammar ≡ fault n place
  unfolding read_into rewrite ◌>>=◌
  alike n place e = rw e

  -- what reading accepted, and then rewriting refused
  too_long : (f : Forest) (n place : ℕ) → read_into m lent grammar ≡ done f → rewrite_into m lent output grammar ≡ fault n place → n ≡ output_too_long
  too_long f n place e r = elim (rewrite_settles m lent output grammar f e) [
    | inl s ↦ (let x = s.0 in let z : ◌≡◌ {A = ℕ} 0 1 = cc in absurd (omega arith))
    | inr s ↦ (let x = s.0 in let q : n ≡ output_too_long = cc in q)
  ]

  rewrite_answered : Answered (RewriteRefusal m) (rewrite_into m lent output grammar)
  rewrite_answered = go (read_into m lent grammar) refl (answered m lent grammar)
    where
      go : (o : Outcome Forest) → read_into m lent grammar ≡ o → Answered (Refusal m) o → Answered (RewriteRefusal m) (rewrite_into m lent output grammar)
      go (fault n p) e (refused r) = rw (alike n p e) (refused (of_reading r))
      go (done f) e a = elim (rewrite_settles m lent output grammar f e) [
        | inl s ↦ rw s.0 (accepted (house m f))
        | inr s ↦ rw s.0 (refused of_output)
      ]

  output_as_lent : length (output_after_rewriting m lent output grammar) ≡ length output
  unfolding output_after
  output_as_lent = go (read_into m lent grammar) refl
    where
      go : (o : Outcome Forest) → read_into m lent grammar ≡ o → length (output_after_rewriting m lent output grammar) ≡ length output
      go (fault n p) e = rw (alike n p e) (length-replicate {A = ℕ} (length output) 0)
      go (done f) e = elim (rewrite_settles m lent output grammar f e) [
        | inl s ↦ rw s.0 (length-filled (length output) (house m f) s.1.0)
        | inr s ↦ rw s.0 (length-replicate {A = ℕ} (length output) 0)
      ]

  rows_as_lent : length (words_after_rewriting m lent output grammar) ≡ length lent
  unfolding rewrite_words_after
  rows_as_lent = go (rewrite_into m lent output grammar)
    where
      go : (o : Outcome (List ℕ)) → length (rewrite_words_after (length lent) (read_into m lent grammar) o) ≡ length lent
      go (fault n p) = length-replicate {A = ℕ} (length lent) 0
      go (done h) = as_lent m lent grammar

-- Demand 1, of every message, whatever is lent.
pub demand1 : (m lent output : List ℕ) (grammar : Grammar) → Demand1 m lent output grammar
demand1 m lent output grammar = record {
  read_answered = answered m lent grammar;
  words_zero = λ n place e. words_refused (length lent) _ n place e;
  words_as_lent = as_lent m lent grammar;
  rewrite_answered = rewrite_answered m lent output grammar;
  refused_alike = alike m lent output grammar;
  accepted_too_long = too_long m lent output grammar;
  rows_zero = λ n place e. rows_refused (length lent) _ _ n place e;
  output_zero = λ n place e. output_refused (length output) _ n place e;
  rows_as_lent = rows_as_lent m lent output grammar;
  output_as_lent = output_as_lent m lent output grammar;
}
