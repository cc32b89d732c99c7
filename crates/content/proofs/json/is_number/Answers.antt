-- `is_number`: the bytes passed lead to the stage reached. Assumes nothing.
use Prim.Native.Nat.{◌≤◌, ◌<◌}
use mathlib.Core.Path.{◌≡◌, refl, sym, ◌∙◌}
use native.Mathlib.Omega.{arith}
use lib.ListN.{length, drop}
use native.Mathlib.Numerals.{add-one}
use lib.ListN.{get_or, drop_of_length-le}
use lib.Seq.{drop-cons}
use mathlib.Core.List.{List}
use Prim.Native.Nat.{ℕ, ◌+◌}
use Rattle.format.specs.JsonNumber as Json
use Rattle.content.proofs.json.is_number.Goals as goal

module _ (stage : Json.Stage) (s : List ℕ) (i : ℕ) where
  numeral-on : i < length s → Json.numeral stage (drop i s) ≡ Json.numeral (Json.step stage (get_or s i 0)) (drop (i + 1) s)
  unfolding Json.numeral
  numeral-on h = rw (add-one i, drop-cons s i 0)

  numeral-end : length s ≤ i → Json.numeral stage (drop i s) ≡ Json.ends stage
  unfolding Json.numeral
  numeral-end h = rw (drop_of_length-le s h)

pub loop-b-init : goal.loop-b-init
unfolding Json.is_number
loop-b-init c =
    refl

pub loop-b-preserved : goal.loop-b-preserved
unfolding Json.is_number
loop-b-preserved c =
    (c.loop-b.invariant ∙ numeral-on _ c.args.bytes.now c.loop-b.b-index (omega arith) ∙ rw c.step-stage.ensures)

pub returns : goal.returns
unfolding Json.is_number
returns c =
    c.ends.ensures ∙ sym (c.loop-b.invariant ∙ numeral-end _ c.args.bytes.now c.loop-b.b-index (omega arith))
