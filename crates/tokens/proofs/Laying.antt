-- Tokens that lie in the lent words. Assumes nothing.
use Prim.Native.Nat.{ℕ, suc, ◌+◌, ◌≤◌}
use mathlib.Core.Path.{◌≡◌, refl, ◌∙◌}
use mathlib.Core.List.{List, append-nil}
use native.Mathlib.Omega.{arith}
use Rattle.format.specs.Outcome.{Parsed, done}
use Rattle.format.specs.Tokens.{Token, Forest, none, node, alone, size, members}
use Rattle.format.specs.Rows.{Ancestry, held_by, row_of, rows}
use Rattle.rows.specs.Row.{store}
use Rattle.rows.specs.Overlay.{lay}
use Rattle.rows.proofs.Overlay.{lay_front}
use Rattle.std.specs.Prelude.{Result, Ok, Err}
use Rattle.format.specs.declared.refusals.Refused.{Refused}
use Rattle.tokens.specs.Answers.{Laid, Within}
use Rattle.tokens.specs.declared.End.{End}

-- a token with nothing below it
pub laid_alone : (t : Token) (row next : ℕ) (ancestry : Ancestry) (before now : List ℕ) → now ≡ store before row (row_of t (row + 1) ancestry)
    → Laid (done (alone t, next)) row (members (alone t)) ancestry before now next (row + 1)
unfolding size rows lay
laid_alone t row next ancestry before now e =
    let q : suc row + 0 ≡ row + 1 = omega arith in
    record { forest = alone t; read = refl; counted = refl; took = omega arith; lie = rw q e }

-- what ends from a place on ends from every place before it on
pub within_from : (r : Result End Refused) (low low' high rows_lent : ℕ) → low' ≤ low → Within r low high rows_lent → Within r low' high rows_lent
within_from (Err r) low low' high rows_lent h w = tt
within_from (Ok e) low low' high rows_lent h w = omega arith

-- a token over those below it, whose rows were stored before its own
pub laid_over : (t : Token) (o : Parsed Forest) (row k next row' end : ℕ) (ancestry : Ancestry) (before mid now : List ℕ) (l : Laid o (row + 1) k (held_by row ancestry) before mid next row')
    → now ≡ store mid row (row_of t row' ancestry)
    → Laid (done (node t l.forest none, end)) row (members (node t l.forest none)) ancestry before now end row'
unfolding size rows
laid_over t o row k next row' end ancestry before mid now l e =
    let f = l.forest in
    let q : row' ≡ suc row + size f = omega (arith, l.took) in
    let p : row + 1 ≡ suc row = omega arith in
    record {
      forest = node t f none;
      read = refl;
      counted = refl;
      took = omega arith;
      lie = e ∙ rw (l.lie, q, p, append-nil (rows (suc row) (held_by row ancestry) f)) (lay_front before row (row_of t (suc row + size f) ancestry) (rows (suc row) (held_by row ancestry) f));
    }

-- the same where those below it are given
pub laid_under : (t : Token) (below : Forest) (row end link : ℕ) (ancestry : Ancestry) (before mid now : List ℕ) → link ≡ row + 1 + size below
    → mid ≡ lay before (row + 1) (rows (row + 1) (held_by row ancestry) below) → now ≡ store mid row (row_of t link ancestry)
    → Laid (done (node t below none, end)) row (members (node t below none)) ancestry before now end link
laid_under t below row end link ancestry before mid now took lie e =
    laid_over t (done (below, end)) row (members below) end link end ancestry before mid now
    (record { forest = below; read = refl; counted = refl; took = took; lie = lie }) e
