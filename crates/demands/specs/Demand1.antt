-- Demand 1.
--
-- In plain words. Hand over any bytes, from anywhere, and there is an answer. The message is accepted, or it is refused with a number that
-- says why and a place that says where. The numbers are fixed, and each has its place: a byte of the message, or its end, or 0 where the
-- message as a whole is too long or the output is. There is no other answer, and nothing undefined happens.
--
-- A refusal leaves nothing behind: every word lent for rows is zero, and so is every byte lent for output, whatever they held before.
-- And whatever the answer, as many words and bytes are there as were lent.
--
-- Rewriting reads first. What reading refuses, it refuses with the same number at the same place; what reading accepts, it refuses only
-- because the output is too long.
--
-- Formally. `m` is any message, `lent` any words for its rows, `output` any bytes for its house form, and `grammar` any edition's.
-- `proofs/Demand1` proves it of all of them. That nothing undefined happens is in the contracts of `reader::message::read` and
-- `rewriter::message::rewrite`: they ask nothing of their callers, and answer and leave what is named here. `proofs/Refused` has a message
-- for each of the numbers.
use Rattle.std.specs.Prelude.{ℕ, ◌≡◌, List, length}
use Rattle.format.specs.Grammars.{Grammar}
use Rattle.format.specs.Outcome.{Outcome, fault, done}
use Rattle.format.specs.Refusals.{output_too_long}
use Rattle.format.specs.Tokens.{Forest}
use Rattle.format.specs.Rows.{zeros}
use Rattle.format.specs.Read.{read_into}
use Rattle.laws.specs.Refusal.{Refusal}
use Rattle.demands.specs.Reads.{after_reading}
use Rattle.demands.specs.Rewrites.{rewrite_into, words_after_rewriting, output_after_rewriting}

-- the refusals of rewriting: those of reading, and 11 at 0
pub data RewriteRefusal (m : List ℕ) : ℕ → ℕ → Type 0 where
  of_reading : {n place : ℕ} → Refusal m n place → RewriteRefusal m n place
  of_output : RewriteRefusal m output_too_long 0

-- accepted, or refused with a number and place that go together
pub data Answered {A : Type 0} (Refused : ℕ → ℕ → Type 0) : Outcome A → Type 0 where
  accepted : (a : A) → Answered Refused (done a)
  refused : {n place : ℕ} → Refused n place → Answered Refused (fault n place)

pub record Demand1 (m lent output : List ℕ) (grammar : Grammar) : Type 0 where
  -- ---- reading
  -- any bytes get an answer
  pub read_answered : Answered (Refusal m) (read_into m lent grammar)
  -- a refusal leaves every lent word zero
  pub words_zero : (n place : ℕ) → read_into m lent grammar ≡ fault n place → after_reading m lent grammar ≡ zeros (length lent)
  -- as many words as were lent
  pub words_as_lent : length (after_reading m lent grammar) ≡ length lent
  -- ---- rewriting
  -- any bytes get an answer
  pub rewrite_answered : Answered (RewriteRefusal m) (rewrite_into m lent output grammar)
  -- what reading refuses is refused alike
  pub refused_alike : (n place : ℕ) → read_into m lent grammar ≡ fault n place → rewrite_into m lent output grammar ≡ fault n place
  -- what it accepts is refused with 11 alone
  pub accepted_too_long : (f : Forest) (n place : ℕ) → read_into m lent grammar ≡ done f → rewrite_into m lent output grammar ≡ fault n place → n ≡ output_too_long
  -- a refusal leaves every lent word and every byte of the output zero
  pub rows_zero : (n place : ℕ) → rewrite_into m lent output grammar ≡ fault n place → words_after_rewriting m lent output grammar ≡ zeros (length lent)
  pub output_zero : (n place : ℕ) → rewrite_into m lent output grammar ≡ fault n place → output_after_rewriting m lent output grammar ≡ zeros (length output)
  -- as many words and bytes as were lent
  pub rows_as_lent : length (words_after_rewriting m lent output grammar) ≡ length lent
  pub output_as_lent : length (output_after_rewriting m lent output grammar) ≡ length output
