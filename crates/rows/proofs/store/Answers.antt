-- `store`: one test, and ten stores one after another. Assumes nothing.
use Prim.Native.Nat.{ℕ, suc, ◌+◌}
use mathlib.Core.Path.{◌≡◌, ap, ◌∙◌}
use native.Mathlib.Nat.{add-suc}
use native.Mathlib.Numerals.{add_eight, unary_clauses}
use borrow.Author.Tests.{lt-ltb, le-ltb}
use Rattle.format.specs.Conditions.{when◌then◌else◌}
use Rattle.format.specs.Rows as Rows
use Rattle.rows.specs.Row as Row
use Rattle.rows.proofs.store.Goals as goal

-- the clauses go up to eight
add-nine : (n : ℕ) → n + 9 ≡ suc (suc (suc (suc (suc (suc (suc (suc (suc n))))))))
add-nine n = add-suc n 8 ∙ ap suc (add_eight n)

pub returns-then-rows-row : goal.returns-then-rows-row
unfolding Row.store Rows.rows_in Rows.layout when◌then◌else◌
returns-then-rows-row c =
    simp (le-ltb _ _ c.if-rows-row.true)

pub returns : goal.returns
unfolding Row.store Rows.rows_in Rows.layout when◌then◌else◌
returns c =
    simp (lt-ltb _ _ c.if-rows-row.false, add-nine, unary_clauses)
