-- Members that are read one after another: none yet, one more, and more from there. Assumes nothing.
use Prim.Native.Nat.{ℕ, zero, suc, ◌+◌, ◌≤◌, ◌<◌}
use mathlib.Core.Path.{◌≡◌, refl, sym, ap, ◌∙◌}
use mathlib.Core.List.{List}
use native.Mathlib.Omega.{arith}
use lib.ListN.{length}
use borrow.Author.Tests.{lt-ltb, ne_eqb}
use Rattle.format.specs.Conditions.{when◌then◌else◌}
use Rattle.format.specs.Outcome.{◌>>=◌, ◌>>◌, guard}
use Rattle.format.specs.Tokens.{none, size, ◌⊕◌, members}
use Rattle.format.specs.Rows.{Ancestry, rows}
use Rattle.format.specs.Bytes.{byte, skip}
use Rattle.format.specs.Sequences.{Reader, repeat, until, spaced}
use Rattle.format.proofs.Forests.{size_append, members_append}
use Rattle.rows.specs.Overlay.{lay}
use Rattle.tokens.specs.Answers.{onto, Laid}
use Rattle.tokens.proofs.Sofar.{lay_forest, onto-none, onto-onto, seq_read}
use Rattle.runs.specs.Runs.{Begins, Goes, Passed}

module _ (m : List ℕ) (closing : ℕ) (item : Reader) where
  -- none is read yet
  pub passed_start : (start first : ℕ) (ancestry : Ancestry) (words : List ℕ) → Passed m closing item start first ancestry words start first 0 words
  unfolding size members rows lay
  passed_start start first ancestry words =
      record {
        forest = none;
        counted = refl;
        took = omega arith;
        lie = refl;
        some = λ n. let e : 0 + n ≡ n = omega arith in rw e (sym (onto-none _));
        still = λ e. (refl, refl, refl);
        goes = λ fuel h. record { left = fuel; enough = h; is = sym (onto-none _) };
      }

  -- one member where no `N` and no closing mark stands
  module _ (at row next row' : ℕ) (ancestry : Ancestry) (now after : List ℕ) (b : Begins m closing at) (on : at < next) (l : Laid (item at row) row 1 ancestry now after next row') where
    one_some : (n : ℕ) → repeat (1 + n) (spaced m item) at row ≡ onto l.forest (repeat n (spaced m item) next row')
    unfolding repeat spaced
    one_some n = let e : 1 + n ≡ suc n = omega arith in rw (e, l.took) (seq_read (spaced m item) (repeat n (spaced m item)) at row next l.forest (rw b.here l.read))

    one_goes : (fuel : ℕ) → length m ≤ at + fuel → Goes m closing item at row l.forest next row' fuel
    unfolding until byte guard ◌>>◌ ◌>>=◌ when◌then◌else◌
    one_goes zero h = let t = b.there in absurd (omega arith)
    one_goes (suc fuel) h =
        record {
          left = fuel;
          enough = omega (arith, h, on);
          is = rw (b.here, lt-ltb _ _ b.there, ne_eqb _ _ b.more, l.took) (seq_read item (until m fuel (skip m) closing item) at row next l.forest l.read);
        }

    pub passed_one : Passed m closing item at row ancestry now next row' 1 after
    passed_one = record { forest = l.forest; counted = l.counted; took = l.took; lie = l.lie; some = one_some; still = λ e. absurd (omega arith); goes = one_goes }

  -- some, and then more
  pub passed_join : {start first at row k next row' j : ℕ} {ancestry : Ancestry} {before now after : List ℕ} → Passed m closing item start first ancestry before at row k now
      → Passed m closing item at row ancestry now next row' j after → Passed m closing item start first ancestry before next row' (k + j) after
  passed_join {start} {first} {at} {row} {k} {next} {row'} {j} {ancestry} {before} {now} {after} p q =
      let f = p.forest in
      let g = q.forest in
      record {
        forest = f ⊕ g;
        counted = members_append f g ∙ omega (arith, p.counted, q.counted);
        took = omega (arith, p.took, q.took, size_append f g);
        lie = q.lie ∙ rw (p.lie, p.took) (lay_forest before first ancestry f g);
        some = λ n.
            let e : k + j + n ≡ k + (j + n) = omega arith in
            rw e (p.some (j + n) ∙ ap (onto f) (q.some n) ∙ onto-onto f g _);
        still = λ e. let a = p.still (omega arith) in let b = q.still (omega arith) in (b.0 ∙ a.0, b.1 ∙ a.1, b.2 ∙ a.2);
        goes = λ fuel h.
            let a = p.goes fuel h in
            let b = q.goes a.left a.enough in
            record { left = b.left; enough = b.enough; is = a.is ∙ ap (onto f) b.is ∙ onto-onto f g _ };
      }
