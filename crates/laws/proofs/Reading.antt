-- What always holds of reading, for all messages and all numbers of rows lent. Assumes nothing.
use Prim.Native.Nat.{ℕ, ◌≤◌}
use mathlib.Core.Path.{◌≡◌, refl}
use mathlib.Core.Bool.{Bool, true, false}
use mathlib.Core.List.{List, [], ◌++◌, append-nil}
use mathlib.Core.Logic.{inl, inr}
use native.Mathlib.Omega.{arith}
use lib.ListN.{length, get_or, length-append}
use lib.Dec.{leb}
use borrow.Author.Tests.{le-leb, leb-true}
use Rattle.format.specs.Grammars.{Grammar}
use Rattle.format.specs.Outcome.{Outcome, fault, done, number_of, place_of, ◌>>◌, guard}
use Rattle.format.specs.Limits.{limit, value_levels}
use Rattle.format.specs.Refusals.{message_too_long, ends_too_early, not_allowed, no_row_left}
use Rattle.format.specs.Marks.{'E'}
use Rattle.format.specs.Tokens.{Forest, size}
use Rattle.format.specs.Rows.{outermost, all_rows}
use Rattle.format.specs.Bytes.{skip}
use Rattle.format.specs.Sequences.{spaced}
use Rattle.format.specs.Read.{read}
use Rattle.format.proofs.Forests.{length-rows}
use Rattle.laws.specs.Rising.{Rising}
use Rattle.laws.proofs.Holds.{of_done, of_short}
use Rattle.laws.proofs.Skips.{skip_inside}
use Rattle.laws.proofs.Order.{order_size}
use Rattle.laws.proofs.Rows.{rows_rising}
use Rattle.laws.proofs.Bounds.{value_bounded, read_bounded}
use Rattle.laws.proofs.Keeps.{same, bind_keeps, then_keeps, bind_refuses, unless_free}
use Rattle.laws.proofs.Added.{Added, value_keeps, end_refuses}

-- There are as many rows as tokens.
pub rows_are_tokens : (f : Forest) → length (all_rows f) ≡ size f
unfolding all_rows
rows_are_tokens f = length-rows 0 outermost f

-- a refusal with 3 at an `E`
abbrev pub AtExtension : List ℕ → ℕ → ℕ → Type 0
AtExtension m n p = (n ≡ not_allowed) × (get_or m p 0 ≡ 'E')

module _ (m : List ℕ) (rows_lent : ℕ) (grammar : Grammar) where
  -- An accepted message is within the limit.
  pub accepted_short : (f : Forest) → read m rows_lent grammar ≡ done f → length m ≤ limit
  unfolding read guard ◌>>◌
  accepted_short f e = go (leb (length m) limit) refl _ e
    where
      go : (b : Bool) → leb (length m) limit ≡ b → (rest : Outcome Forest) → (guard b message_too_long 0 >> rest) ≡ done f → length m ≤ limit
      go true t rest e = leb-true (length m) limit t
      go false t rest e = let z : ◌≡◌ {A = ℕ} 0 1 = cc in absurd (omega arith)

  -- An accepted message has at most as many rows as bytes, and at most as many as are lent.
  pub rows_few : (f : Forest) → read m rows_lent grammar ≡ done f → (size f ≤ length m) × (size f ≤ rows_lent)
  rows_few f e =
      let h = of_done f (read_bounded m rows_lent grammar) e in
      let k = order_size h.1 in
      (omega arith, h.0)

  -- The first bytes of its rows rise strictly, and lie below the message's length.
  pub first_bytes_rise : (f : Forest) → read m rows_lent grammar ≡ done f → Rising 0 (length m) (all_rows f)
  unfolding all_rows
  first_bytes_rise f e = rows_rising 0 outermost (of_done f (read_bounded m rows_lent grammar) e).1

  -- More rows lent change no answer but a refusal with 8.
  pub more_rows : (more : ℕ) → rows_lent ≤ more → (number_of (read m rows_lent grammar) ≡ no_row_left → ⊥) → read m more grammar ≡ read m rows_lent grammar
  unfolding read spaced
  more_rows more l c =
      let eight : Added (λ n _. n ≡ no_row_left) m [] rows_lent more grammar grammar =
      record { bytes_added = inl refl; rows_added = inr λ _. refl; rows_kept = l; grammar_added = inl refl; grammar_kept = λ e. e } in
      let k = rw (append-nil m) at (value_keeps _ m [] rows_lent more grammar grammar eight value_levels 0 0) in
      unless_free c (then_keeps same (bind_keeps k λ _. same))

  -- A grammar that allows more changes no answer but a refusal with 3 at an `E`: what a grammar accepts, one that allows more accepts with
  -- the same tokens, and every other refusal stays.
  pub wider-grammar : (wider : Grammar) → (grammar.extensions ≡ true → wider.extensions ≡ true)
      → (AtExtension m (number_of (read m rows_lent grammar)) (place_of (read m rows_lent grammar)) → ⊥) → read m rows_lent wider ≡ read m rows_lent grammar
  unfolding read spaced
  wider-grammar wider w c =
      let three : Added (AtExtension m) m [] rows_lent rows_lent grammar wider =
      record { bytes_added = inl refl; rows_added = inl refl; rows_kept = omega arith; grammar_added = inr λ p e. (refl, e); grammar_kept = w } in
      let k = rw (append-nil m) at (value_keeps _ m [] rows_lent rows_lent grammar wider three value_levels 0 0) in
      unless_free c (then_keeps same (bind_keeps k λ _. same))

  -- As many rows as the message has bytes are always enough.
  pub rows_enough : length m ≤ rows_lent → number_of (read m rows_lent grammar) ≡ no_row_left → ⊥
  rows_enough l e = let k = of_short (read_bounded m rows_lent grammar) e in omega arith

  -- More bytes after a refused message change no refusal but 2, as long as they stay within the limit.
  pub more_bytes : (n place : ℕ) → read m rows_lent grammar ≡ fault n place → (n ≡ ends_too_early → ⊥)
      → (bytes : List ℕ) → length (m ++ bytes) ≤ limit → read (m ++ bytes) rows_lent grammar ≡ fault n place
  unfolding read spaced guard ◌>>◌
  more_bytes n place e c bytes l =
      let h : length m ≤ limit = omega (arith, length-append m bytes) in
      let two : Added (λ n _. n ≡ ends_too_early) m bytes rows_lent rows_lent grammar grammar =
      record { bytes_added = inr λ _. refl; rows_added = inl refl; rows_kept = omega arith; grammar_added = inl refl; grammar_kept = λ e. e } in
      let b = value_bounded m rows_lent grammar value_levels (skip m 0) 0 (omega (arith, skip_inside m 0 (omega arith))) (omega arith) in
      let k = bind_refuses b (value_keeps _ m bytes rows_lent rows_lent grammar grammar two value_levels 0 0) (λ v s. end_refuses m bytes v.1 v.0 s.inside) n place c in
      rw (le-leb (length (m ++ bytes)) limit l) (k (rw (le-leb (length m) limit h) at e))
