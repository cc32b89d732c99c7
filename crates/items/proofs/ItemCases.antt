-- The cases of a value. Assumes nothing.
use Prim.Native.Nat.{ℕ, ◌+◌, ◌≤◌, ◌<◌}
use mathlib.Core.Path.{◌≡◌, refl, ap, ◌∙◌}
use mathlib.Core.Bool.{Bool, true, false, ◌&&◌}
use mathlib.Core.List.{List}
use lib.ListN.{length, get_or}
use lib.Dec.{eqb}
use borrow.Author.Tests.{lt-ltb, le-ltb}
use Rattle.format.specs.Grammars.{Grammar}
use Rattle.format.specs.Conditions.{when◌then◌else◌}
use Rattle.format.specs.Outcome.{Parsed, fault, ◌>>=◌, ◌>>◌, guard}
use Rattle.format.specs.Refusals.{ends_too_early, not_allowed}
use Rattle.format.specs.Marks as Marks
use Rattle.format.specs.Marks.{Opening, is_scalar, 'E', 'H', 'S', '[', left_brace}
use Rattle.format.specs.Tokens as Tokens
use Rattle.format.specs.Tokens.{Forest}
use Rattle.format.specs.Bytes.{byte}
use Rattle.format.specs.Sequences.{Reader}
use Rattle.format.specs.Scalars as Scalars
use Rattle.format.specs.Extensions as Extensions
use Rattle.format.specs.Read.{value_by}
use Rattle.items.specs.Items.{Begins, scalar, text, high_precision, opens_bracket, opens_brace, extension, other, class}

module _ (m : List ℕ) (lent : ℕ) (grammar : Grammar) (nested : Opening → Reader) (at row : ℕ) where
  pub value_early : length m ≤ at → value_by m lent grammar nested at row ≡ fault ends_too_early (length m)
  unfolding value_by byte guard ◌>>◌ ◌>>=◌
  value_early h = rw (le-ltb _ _ h)

  -- by what its mark begins
  unfoldable pub value_on : Begins → Parsed Forest
  value_on scalar = Scalars.scalar m lent (get_or m at 0) (at + 1) at row
  value_on text = Scalars.text m lent Tokens.text 'S' at row
  value_on high_precision = Scalars.text m lent Tokens.high_precision 'H' at row
  value_on opens_bracket = nested Marks.bracket at row
  value_on opens_brace = nested Marks.brace at row
  value_on extension = Extensions.extension m lent at row
  value_on other = fault not_allowed at

  by_tests : (a b c d e f : Bool)
      → (when a then value_on scalar else when b then value_on text else when c then value_on high_precision else when d then value_on opens_bracket else when e then value_on opens_brace else when f then value_on extension else value_on other)
      ≡ value_on (when a then scalar else when b then text else when c then high_precision else when d then opens_bracket else when e then opens_brace else when f then extension else other)
  unfolding when◌then◌else◌
  by_tests true b c d e f = refl
  by_tests false true c d e f = refl
  by_tests false false true d e f = refl
  by_tests false false false true e f = refl
  by_tests false false false false true f = refl
  by_tests false false false false false true = refl
  by_tests false false false false false false = refl

  value_class : at < length m → value_by m lent grammar nested at row ≡ value_on (class grammar (get_or m at 0))
  unfolding value_by byte guard ◌>>◌ ◌>>=◌ class value_on
  value_class h = rw (lt-ltb _ _ h) (by_tests (is_scalar (get_or m at 0)) (eqb (get_or m at 0) 'S') (eqb (get_or m at 0) 'H') (eqb (get_or m at 0) '[') (eqb (get_or m at 0) left_brace) (grammar.extensions && eqb (get_or m at 0) 'E'))

  pub value_begins : (b : Begins) → at < length m → class grammar (get_or m at 0) ≡ b → value_by m lent grammar nested at row ≡ value_on b
  value_begins b h e = value_class h ∙ ap value_on e
