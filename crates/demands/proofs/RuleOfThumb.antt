-- The rule of thumb, for all messages. Assumes nothing.
use Prim.Native.Nat.{ℕ}
use mathlib.Core.List.{List}
use native.Mathlib.Omega.{arith}
use lib.ListN.{length}
use Rattle.format.specs.Grammars.{Grammar}
use Rattle.format.specs.Rows.{rows_in}
use Rattle.format.specs.Read.{read_whole, read_into}
use Rattle.laws.proofs.Reading.{rows_few, rows_enough, more_rows}
use Rattle.demands.specs.RuleOfThumb.{RuleOfThumb}

pub rule_of_thumb : (m : List ℕ) (grammar : Grammar) → RuleOfThumb m grammar
unfolding read_into read_whole rows_in
rule_of_thumb m grammar = record {
  rows_few = λ lent f e. let h = (rows_few m (rows_in lent) grammar f e).0 in omega arith;
  never_short = λ lent l. rows_enough m (rows_in lent) grammar (omega arith);
  settled = λ lent l. more_rows m (length m) grammar (rows_in lent) (omega arith) (rows_enough m (length m) grammar (omega arith));
}
