-- What rewriting answers: a message of the same meaning in house form, which rewriting leaves as it is. Assumes nothing.
use Prim.Native.Nat.{ℕ, ◌≤◌}
use mathlib.Core.Path.{◌≡◌, refl, sym, subst}
use mathlib.Core.List.{List}
use lib.ListN.{length}
use lib.Dec.{leb}
use borrow.Author.Tests.{leb-true, le-leb}
use Rattle.format.specs.Grammars.{Grammar}
use Rattle.format.specs.Outcome.{done, ◌>>=◌, ◌>>◌, guard}
use Rattle.format.specs.Limits.{limit}
use Rattle.format.specs.Tokens.{Forest}
use Rattle.format.specs.Read.{read}
use Rattle.format.specs.HouseForm.{house, rewrite}
use Rattle.format.proofs.Tests.{both_true}
use Rattle.laws.proofs.Holds.{Holds, holds, bind_law, then_law, guard_law, of_done}
use Rattle.meaning.specs.Rewriting.{Rewritten, InHouseForm}
use Rattle.meaning.proofs.Accepting.{self_law, read_finds}
use Rattle.meaning.proofs.RoundTrip.{round_trip, house_settles}

-- the house form h of the tokens of m, within the room and the limit
record Written (m : List ℕ) (rows_lent : ℕ) (grammar : Grammar) (room : ℕ) (h : List ℕ) : Type 0 where
  tokens : Forest
  accepted : read m rows_lent grammar ≡ done tokens
  written : h ≡ house m tokens
  roomy : length h ≤ room
  short : length h ≤ limit

module _ (m : List ℕ) (rows_lent : ℕ) (grammar : Grammar) (room : ℕ) where
  rewrite_law : Holds (Unit {0}) (Written m rows_lent grammar room) (rewrite m rows_lent grammar room)
  unfolding rewrite
  rewrite_law = bind_law (self_law _) λ f e. then_law (guard_law _ _ _ refl) λ t.
      let b = both_true (leb (length (house m f)) room) _ t in
      holds (record { tokens = f; accepted = e; written = refl; roomy = leb-true _ room b.0; short = leb-true _ limit b.1 })

  -- What was written has the same meaning as the message.
  pub rewrite_same : (h : List ℕ) → rewrite m rows_lent grammar room ≡ done h → (f : Forest) × (read m rows_lent grammar ≡ done f) × Rewritten m f rows_lent grammar h
  rewrite_same h e =
      let w = of_done h rewrite_law e in
      let fits : length (house m w.tokens) ≤ limit = rw w.written at w.short in
      (w.tokens, w.accepted, subst (Rewritten m w.tokens rows_lent grammar) (sym w.written) (round_trip m rows_lent grammar w.tokens w.accepted fits))

  -- It is in house form.
  pub rewrite_settled : (h : List ℕ) → rewrite m rows_lent grammar room ≡ done h → InHouseForm h rows_lent grammar
  rewrite_settled h e =
      let w = of_done h rewrite_law e in
      let fits : length (house m w.tokens) ≤ limit = rw w.written at w.short in
      subst (λ x. InHouseForm x rows_lent grammar) (sym w.written) (house_settles m rows_lent grammar w.tokens w.accepted fits)

-- A message in house form is left as it is, in an output that has room for it.
pub rewrite_keeps : (h : List ℕ) (rows_lent : ℕ) (grammar : Grammar) (room : ℕ) → InHouseForm h rows_lent grammar → length h ≤ room → rewrite h rows_lent grammar room ≡ done h
unfolding rewrite guard ◌>>=◌ ◌>>◌
rewrite_keeps h rows_lent grammar room s r =
    let l = of_done s.tokens (read_finds h rows_lent grammar) s.accepted in
    rw (s.accepted, s.own, le-leb _ _ r, le-leb _ _ l.0)

-- A second rewriting changes nothing.
pub rewrite_again : (m h : List ℕ) (rows_lent : ℕ) (grammar : Grammar) (room : ℕ) → rewrite m rows_lent grammar room ≡ done h → rewrite h rows_lent grammar room ≡ done h
rewrite_again m h rows_lent grammar room e = rewrite_keeps h rows_lent grammar room (rewrite_settled m rows_lent grammar room h e) (of_done h (rewrite_law m rows_lent grammar room) e).roomy
