-- `count_at`: read with no table, at the first row. Assumes nothing.
use Prim.Native.Nat.{ℕ, ◌≤◌}
use mathlib.Core.Path.{◌≡◌, sym, ◌∙◌, ap}
use mathlib.Core.Bool.{false}
use mathlib.Core.List.{List}
use native.Mathlib.Omega.{arith}
use lib.ListN.{length}
use Rattle.format.specs.Outcome.{fault, done}
use Rattle.format.specs.Limits.{limit}
use Rattle.format.specs.Rows.{Ancestry}
use Rattle.format.specs.Dimensions.{Shape, shape}
use Rattle.shapes.specs.Answers.{Told}
use Rattle.columns.proofs.Inverse.{never, done_pair}
use Rattle.records.specs.Counts.{CountOver}
use Rattle.records.proofs.Moves.{shape_moves, shape_few}
use Rattle.records.proofs.counts.count_at.Goals as goal

-- read at any row, it is read at the first
module _ (m : List ℕ) (at lent row start : ℕ) (n : Shape) (l : row ≤ lent) (e : shape m lent false at row ≡ done (n, start)) where
  at_first : shape m (length m) false at 0 ≡ done (n, start)
  at_first = shape_moves m lent (length m) at row 0 start n e (let h = shape_few m lent at row start n l e in omega arith)

  unread : {x y : ℕ} → shape m (length m) false at 0 ≡ fault x y → ⊥
  unread t = never (sym t ∙ at_first)

  told_over : {ancestry : Ancestry} {ws vs : List ℕ} {next row' many order : ℕ} → Told (shape m (length m) false at 0) 0 ancestry ws vs next row' many order → n.many ≤ limit → CountOver n start (record { start = next; many = many })
  told_over u h =
      let q = done_pair (sym u.read ∙ at_first) in
      let k = ap (λ (s : Shape). s.many) q.0 in
      record { started = q.1; times = omega (arith, u.times) }

pub returns-then-end-at-clause-is : goal.returns-then-end-at-clause-is
returns-then-end-at-clause-is c =
    (λ lent row start n _ l e _. let h = shape_few _ lent _ row start n l e in absurd (omega arith))

pub returns-in_default-clause-is : goal.returns-in_default-clause-is
returns-in_default-clause-is c =
    (λ lent row start n _ l e _. absurd (unread _ _ lent row start n l e c.in_default.ensures.meets))

pub returns-clause-is : goal.returns-clause-is
returns-clause-is c =
    let t = c.in-Ok.ensures.meets in
    let w = c.in-Ok.ensures.bounds in (λ lent row start n _ l e h. told_over _ _ lent row start n l e t h)
