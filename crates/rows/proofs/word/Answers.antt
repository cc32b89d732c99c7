-- `word`: past the table's end there is no word, and `get_or` gives 0. Assumes nothing.
use mathlib.Core.Path.{◌≡◌, sym, ap, ◌∙◌}
use Prim.Native.Nat.{ℕ, ◌+◌, ◌-◌, ◌*◌, ◌≤◌}
use native.Mathlib.Omega.{arith}
use mathlib.Core.List.{List}
use lib.ListN.{length, take, drop, get_or, length-drop, get_or-eq_default}
use lib.Seq.{take_all}
use Rattle.std.proofs.lemmas.List.{get_or-drop}
use Rattle.format.specs.Rows as Rows
use Rattle.rows.proofs.word.Goals as goal

past : (ws : List ℕ) (row k : ℕ) → length ws ≤ row * Rows.row_words + k → 0 ≡ Rows.word ws row k
unfolding Rows.word
past ws row k h = sym (get_or-eq_default ws 0 h)

rest : (ws : List ℕ) (at : ℕ) → take (length ws - at) (drop at ws) ≡ drop at ws
rest ws at = take_all (length ws - at) (drop at ws) (omega (arith, length-drop at ws))

pub returns-then-rows-row-clause-is : goal.returns-then-rows-row-clause-is
returns-then-rows-row-clause-is c =
    let a = c.args in past a.rows.now a.row a.k (omega arith)

pub returns-in-Some-clause-is : goal.returns-in-Some-clause-is
unfolding Rows.word
returns-in-Some-clause-is c =
    let a = c.args in
    c.in-Some.ensures.lookup.3.1 0 ∙ ap (λ x. get_or x a.k 0) (rest a.rows.now (a.row * 10)) ∙ get_or-drop (a.row * 10) a.rows.now a.k 0

pub returns-in-None-clause-is : goal.returns-in-None-clause-is
returns-in-None-clause-is c =
    let a = c.args in
    past a.rows.now a.row a.k (omega (arith, c.in-None.ensures.lookup.3, ap length (rest a.rows.now (a.row * 10)), length-drop (a.row * 10) a.rows.now))
