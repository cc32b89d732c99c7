-- `integer_to`: a mark, and the number under it. Assumes nothing.
use Prim.Native.Nat.{ℕ, ◌+◌, ◌≤◌}
use native.Mathlib.Nat.{le_trans}
use mathlib.Core.Path.{◌≡◌, sym, ◌∙◌}
use native.Mathlib.Omega.{arith}
use lib.ListN.{length, get_or}
use mathlib.Core.Bool.{true}
use Rattle.format.specs.Marks.{is_integer, width}
use Rattle.format.proofs.MarkFacts.{integer_wide}
use Rattle.format.proofs.IntegerCases.{integer_early, integer_other, integer_number}
use Rattle.scan.specs.Numbers.{Bounded}
use Rattle.std.specs.Prelude.{Result, Ok, Err}
use Rattle.format.specs.declared.refusals.Refused.{Refused}
use Rattle.scan.specs.declared.integers.Parsed.{Parsed}
use Rattle.scan.proofs.integers.integer_to.Goals as goal

further : (r : Result Parsed Refused) (highest from end : ℕ) (from' : ℕ) → from' ≤ from → Bounded r highest from end → Bounded r highest from' end
further (Ok i) highest from end from' h b = (b.0, le_trans h b.1, b.2)
further (Err r) highest from end from' h b = tt

pub returns-then-end-at-clause-is : goal.returns-then-end-at-clause-is
returns-then-end-at-clause-is c =
    sym (integer_early _ _ _ c.if-end-at.true)

pub returns-then-not-is_integer-clause-is : goal.returns-then-not-is_integer-clause-is
returns-then-not-is_integer-clause-is c =
    sym (integer_other _ _ _ c.if-end-at.false (rw (← c.is_integer.ensures) c.if-not-is_integer.true))

pub returns-clause-is : goal.returns-clause-is
returns-clause-is c =
    let a = c.args in
    let e : is_integer (get_or a.message.now a.at 0) ≡ true = rw (← c.is_integer.ensures) c.if-not-is_integer.false in
    let w = integer_wide _ e in
    let h : a.at + 2 ≤ a.at + 1 + width (get_or a.message.now a.at 0) = omega arith in c.number.ensures.is ∙ sym (integer_number _ _ _ c.if-end-at.false e)

pub returns-clause-bounds : goal.returns-clause-bounds
returns-clause-bounds c =
    let a = c.args in
    let e : is_integer (get_or a.message.now a.at 0) ≡ true = rw (← c.is_integer.ensures) c.if-not-is_integer.false in
    let w = integer_wide _ e in
    let h : a.at + 2 ≤ a.at + 1 + width (get_or a.message.now a.at 0) = omega arith in further c.number.result a.highest _ (length a.message.now) _ h c.number.ensures.bounds
