-- The editions as the C calls number them.
use Rattle.std.specs.Prelude.{ℕ, List, eqb, Option, Some, None}
use Rattle.format.specs.Conditions.{when◌then◌else◌}
use Rattle.format.specs.Outcome.{Outcome, fault, done, ◌>>=◌}
use Rattle.format.specs.Refusals.{rows_dont_fit}
use Rattle.format.specs.Tokens.{Forest}
use Rattle.format.specs.Grammars.{Grammar, old, new}
use Rattle.format.specs.Read.{read_into}
use Rattle.format.specs.HouseForm.{rewrite}
use Rattle.format.specs.Answers.{grammar_of}
use Rattle.format.specs.declared.answers.Edition.{Edition}

-- the old edition's number
abbrev pub old_edition : ℕ
old_edition = 1

-- the new edition's number
abbrev pub new_edition : ℕ
new_edition = 2

-- a number that names no edition: 12 at 0
abbrev pub no_edition : Outcome Grammar
no_edition = fault rows_dont_fit 0

-- the grammar of an edition by its number
unfoldable pub grammar_numbered : ℕ → Outcome Grammar
grammar_numbered n = when eqb n old_edition then done old else when eqb n new_edition then done new else no_edition

-- the same, of the edition that a number names
abbrev pub grammar_named : Option Edition → Outcome Grammar
grammar_named (Some e) = done (grammar_of e)
grammar_named None = no_edition

-- reading into lent words by an edition's number
unfoldable pub read_numbered : ℕ → List ℕ → List ℕ → Outcome Forest
read_numbered n m ws = do
  grammar ← grammar_numbered n
  read_into m ws grammar

-- rewriting by an edition's number
unfoldable pub rewrite_numbered : ℕ → List ℕ → ℕ → ℕ → Outcome (List ℕ)
rewrite_numbered n m rows_lent room = do
  grammar ← grammar_numbered n
  rewrite m rows_lent grammar room
