-- A row on the way: an equation for each way through `along`, and what its answer tells. Assumes nothing.
use Prim.Native.Nat.{ℕ, ◌+◌, ◌≤◌, ◌<◌}
use mathlib.Core.Path.{◌≡◌, refl, sym, ap, subst, ◌∙◌}
use mathlib.Core.Bool.{Bool, true, false, ◌&&◌}
use mathlib.Core.List.{List}
use native.Mathlib.Omega.{arith}
use native.Mathlib.Decide.{dec_lt}
use lib.Dec.{leb, ltb}
use borrow.Author.Tests.{lt-ltb, le-ltb, le-leb, lt-leb, ltb-true, leb-true, eq-eqb, ne_eqb}
use Rattle.std.specs.Prelude.{Result, Ok}
use Rattle.format.specs.Answers.{found}
use Rattle.format.specs.declared.refusals.Refusal.{Refusal}
use Rattle.format.specs.Outcome.{Outcome, fault, done, guard, ◌>>◌}
use Rattle.format.specs.Refusals.{rows_dont_fit}
use Rattle.format.specs.Rows.{Row, row_at, rows_in}
use Rattle.format.specs.Addresses.{child_of, along}
use Rattle.format.proofs.Tests.{both_true}

module _ (ws : List ℕ) (fits : Row → Bool) (stop row : ℕ) where
  -- it does not stand before `stop`
  pub along_late : stop ≤ row → fault rows_dont_fit 0 ≡ along ws fits stop row
  unfolding along guard ◌>>◌
  along_late h = rw (le-ltb row stop h) refl

  module _ (before : row < stop) (r : Row) (read : r ≡ row_at ws row) where
    -- it is not what is needed
    pub along_unfit : fits r ≡ false → fault rows_dont_fit 0 ≡ along ws fits stop row
    unfolding along guard ◌>>◌
    along_unfit e = rw (← read, lt-ltb row stop before, e) refl

    -- its link does not go up
    pub along_down : fits r ≡ true → r.link ≤ row → fault rows_dont_fit 0 ≡ along ws fits stop row
    unfolding along guard ◌>>◌
    along_down e h = rw (← read, lt-ltb row stop before, e, le-ltb row r.link h) refl

    -- its link passes `stop`
    pub along_past : fits r ≡ true → row < r.link → stop < r.link → fault rows_dont_fit 0 ≡ along ws fits stop row
    unfolding along guard ◌>>◌
    along_past e h q = rw (← read, lt-ltb row stop before, e, lt-ltb row r.link h, lt-leb r.link stop q) refl

    -- it can be followed
    pub along_on : fits r ≡ true → row < r.link → r.link ≤ stop → done r.link ≡ along ws fits stop row
    unfolding along guard ◌>>◌
    along_on e h q = rw (← read, lt-ltb row stop before, e, lt-ltb row r.link h, le-leb r.link stop q) refl

  -- a row that is followed
  pub record Followed (next : ℕ) : Type 0 where
    pub before : row < stop
    pub fit : fits (row_at ws row) ≡ true
    pub link : (row_at ws row).link ≡ next
    pub up : row < next
    pub inside : next ≤ stop

  -- what is answered: the link, or 12
  pub data Walked : Outcome ℕ → Type 0 where
    follows : {next : ℕ} → Followed next → Walked (done next)
    stuck : Walked (fault rows_dont_fit 0)

  pub walked : Walked (along ws fits stop row)
  unfolding along guard ◌>>◌
  walked = go (ltb row stop && fits (row_at ws row)) refl (ltb row (row_at ws row).link && leb (row_at ws row).link stop) refl
    where
      go : (a : Bool) → (ltb row stop && fits (row_at ws row)) ≡ a → (b : Bool) → (ltb row (row_at ws row).link && leb (row_at ws row).link stop) ≡ b
          → Walked (guard a rows_dont_fit 0 >> (guard b rows_dont_fit 0 >> done (row_at ws row).link))
      go false p b q = stuck
      go true p false q = stuck
      go true p true q = follows record {
        before = ltb-true row stop (both_true (ltb row stop) (fits (row_at ws row)) p).0;
        fit = (both_true (ltb row stop) (fits (row_at ws row)) p).1;
        link = refl;
        up = ltb-true row (row_at ws row).link (both_true (ltb row (row_at ws row).link) (leb (row_at ws row).link stop) q).0;
        inside = leb-true (row_at ws row).link stop (both_true (ltb row (row_at ws row).link) (leb (row_at ws row).link stop) q).1;
      }

  pub followed : (next : ℕ) → along ws fits stop row ≡ done next → Followed next
  followed next e = go (along ws fits stop row) walked e
    where
      go : (o : Outcome ℕ) → Walked o → o ≡ done next → Followed next
      go o (follows {next = n} f) e = let q : n ≡ next = cc in subst Followed q f
      go o stuck e = let z : ◌≡◌ {A = ℕ} 0 1 = cc in absurd (omega arith)

  pub refused : (n : ℕ) → along ws fits stop row ≡ fault n 0 → n ≡ rows_dont_fit
  refused n e = go (along ws fits stop row) walked e
    where
      go : (o : Outcome ℕ) → Walked o → o ≡ fault n 0 → n ≡ rows_dont_fit
      go o (follows f) e = let z : ◌≡◌ {A = ℕ} 0 1 = cc in absurd (omega arith)
      go o stuck e = cc

  -- the same, by what the code answered
  pub went : {r : Result ℕ Refusal} → found r ≡ along ws fits stop row → (next : ℕ) → r ≡ Ok next → Followed next
  went e next q = followed next (sym e ∙ ap found q)

-- a row that names another parent, or this one; past the rows, whatever was read
module _ (ws : List ℕ) (container : ℕ) (fits : Row → Bool) (stop row : ℕ) (inside : stop ≤ rows_in ws) (r : Row) (read : row < rows_in ws → r ≡ row_at ws row) where
  pub along_other : (r.parent ≡ container + 1 → ⊥) → fault rows_dont_fit 0 ≡ along ws (child_of container fits) stop row
  unfolding child_of
  along_other c = elim (dec_lt row stop) [
    | yes h ↦ along_unfit ws (child_of container fits) stop row h r (read (omega arith)) (rw (ne_eqb _ _ c))
    | no h ↦ along_late ws (child_of container fits) stop row (omega arith)
  ]

  pub along_own : r.parent ≡ container + 1 → along ws fits stop row ≡ along ws (child_of container fits) stop row
  unfolding along child_of
  along_own e = elim (dec_lt row stop) [
    | yes h ↦ rw (← read (omega arith), eq-eqb _ _ e) refl
    | no h ↦ sym (along_late ws fits stop row (omega arith)) ∙ along_late ws (child_of container fits) stop row (omega arith)
  ]
