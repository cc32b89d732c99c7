-- What rewriting answers, and what it leaves in lent words and lent output, as the rewriter's contract has them.
use Rattle.std.specs.Prelude.{ℕ, List, length}
use Rattle.format.specs.Grammars.{Grammar}
use Rattle.format.specs.Outcome.{Outcome}
use Rattle.format.specs.Rows.{rows_in}
use Rattle.format.specs.Read.{read_into}
use Rattle.format.specs.HouseForm.{rewrite, output_after, rewrite_words_after}

-- rewriting a message with these words lent for its rows and these bytes for its house form
abbrev pub rewrite_into : List ℕ → List ℕ → List ℕ → Grammar → Outcome (List ℕ)
rewrite_into m lent output grammar = rewrite m (rows_in lent) grammar (length output)

-- the lent words after it
abbrev pub words_after_rewriting : List ℕ → List ℕ → List ℕ → Grammar → List ℕ
words_after_rewriting m lent output grammar = rewrite_words_after (length lent) (read_into m lent grammar) (rewrite_into m lent output grammar)

-- the lent output after it
abbrev pub output_after_rewriting : List ℕ → List ℕ → List ℕ → Grammar → List ℕ
output_after_rewriting m lent output grammar = output_after (length output) (rewrite_into m lent output grammar)
