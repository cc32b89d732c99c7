-- The two editions, for all messages and all numbers of rows. Assumes nothing.
use Prim.Native.Nat.{ℕ}
use mathlib.Core.Path.{◌≡◌, refl, sym, ap, ◌∙◌}
use mathlib.Core.List.{List}
use native.Mathlib.Omega.{arith}
use lib.ListN.{length}
use Rattle.format.specs.Outcome.{done, number_of, place_of}
use Rattle.format.specs.Refusals.{not_allowed}
use Rattle.format.specs.Tokens.{Forest}
use Rattle.format.specs.Rows.{rows_in}
use Rattle.format.specs.Grammars.{old, new}
use Rattle.format.specs.Read.{read, read_into, words_after}
use Rattle.laws.proofs.Reading.{wider-grammar}
use Rattle.demands.specs.Editions.{Editions}

accepted_too : (m : List ℕ) (rows_lent : ℕ) (f : Forest) → read m rows_lent old ≡ done f → read m rows_lent new ≡ done f
unfolding number_of
accepted_too m rows_lent f e = wider-grammar m rows_lent old new (λ _. refl) (λ q. let z : 0 ≡ not_allowed = rw e at q.0 in absurd (omega arith)) ∙ e

pub editions : (m : List ℕ) (rows_lent : ℕ) → Editions m rows_lent
unfolding number_of place_of read_into
editions m rows_lent = record {
  accepted = accepted_too m rows_lent;
  words = λ lent f e. ap (words_after (length lent)) (accepted_too m (rows_in lent) f e ∙ sym e);
  refused = λ n place e c. wider-grammar m rows_lent old new (λ _. refl) (λ q. c (rw e at q)) ∙ e;
}
