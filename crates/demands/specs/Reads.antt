-- What reading leaves in lent words, and what an address reads in a message and such words.
use Rattle.std.specs.Prelude.{ℕ, List, length}
use Rattle.format.specs.Grammars.{Grammar}
use Rattle.format.specs.Outcome.{Outcome, fault}
use Rattle.format.specs.Refusals.{rows_dont_fit}
use Rattle.format.specs.Addresses.{Region}
use Rattle.format.specs.Values.{Scalar, value_in_packed, value_in_table}
use Rattle.format.specs.TextAnswers.{text_in_table, part}
use Rattle.format.specs.Read.{read_into, words_after}
use Rattle.storage.specs.Addresses.{Address, in_packed, in_table, call}

-- the lent words after reading a message into them, as the reader's contract has them
abbrev pub after_reading : List ℕ → List ℕ → Grammar → List ℕ
after_reading m lent grammar = words_after (length lent) (read_into m lent grammar)

module _ (m ws : List ℕ) where
  -- what the value calls answer
  unfoldable pub value_at : Address → Outcome Scalar
  value_at (in_packed row is) = value_in_packed m ws row is
  value_at (in_table row leaf_row is) = value_in_table m ws row leaf_row is

  -- what the text call answers. A packed array has no texts, and no text call
  unfoldable pub text_at : Address → Outcome Region
  text_at (in_packed row is) = fault rows_dont_fit 0
  text_at (in_table row leaf_row is) = text_in_table m ws row leaf_row is

-- what an address reads: its slot's bytes, and the value and the text answer there
pub record Reading : Type 0 where
  pub bytes : List ℕ
  pub value : Outcome Scalar
  pub text : Outcome Region
  pub text_bytes : List ℕ

unfoldable pub reads : List ℕ → List ℕ → Address → Reading
reads m ws a = record {
  bytes = part m (call ws (length m) a);
  value = value_at m ws a;
  text = text_at m ws a;
  text_bytes = part m (text_at m ws a);
}
