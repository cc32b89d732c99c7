-- Items up to a closing mark: fuel that is enough is as good as any other, so the equation of the loop doesn't speak of it. Assumes nothing.
use Prim.Native.Nat.{ℕ, zero, suc, ◌+◌, ◌≤◌}
use mathlib.Core.Path.{◌≡◌, refl, sym, ap}
use mathlib.Core.List.{List}
use native.Mathlib.Omega.{arith}
use lib.ListN.{length}
use lib.Dec.{eqb}
use Rattle.format.specs.Conditions.{when◌then◌else◌}
use Rattle.format.specs.Outcome.{Outcome, done, Parsed, ◌>>=◌}
use Rattle.format.specs.Tokens.{Forest, none, ◌⊕◌}
use Rattle.format.specs.Bytes.{byte}
use Rattle.format.specs.Sequences.{Reader, ◌⨾◌, until}
use Rattle.laws.proofs.Holds.{Holds, refused, holds}
use Rattle.laws.proofs.Bounds.{byte_starts, byte_law, Bounded}

-- two continuations that agree on what was read
bind_same : {A B : Type 0} {S : Type 0} {Q : A → Type 0} {o : Outcome A} {f g : A → Outcome B} → Holds S Q o → ((a : A) → Q a → f a ≡ g a) → (o >>= f) ≡ (o >>= g)
unfolding ◌>>=◌
bind_same (refused s) k = refl
bind_same (holds {a = a} h) k = k a h

module _ (m : List ℕ) (rows_lent : ℕ) (gap : ℕ → ℕ) (closing : ℕ) (item : Reader) (up : (a : ℕ) → a ≤ gap a) (bounded : Bounded m rows_lent 0 0 1 item) where
  until_fuel : (n n' at row : ℕ) → length m ≤ at + n → length m ≤ at + n' → row ≤ rows_lent → until m n gap closing item at row ≡ until m n' gap closing item at row
  unfolding until ◌⨾◌
  until_fuel zero zero at row h k l = refl
  until_fuel zero (suc n') at row h k l = sym (byte_starts m (gap at) _ (let u = up at in omega arith))
  until_fuel (suc n) zero at row h k l = byte_starts m (gap at) _ (let u = up at in omega arith)
  until_fuel (suc n) (suc n') at row h k l =
      let u = up at in
      bind_same (byte_law m {S = Unit {0}} (gap at)) λ b i. ap (λ (o : Parsed Forest). when eqb b closing then done (none, gap at) else o)
      (bind_same (bounded (gap at) row (omega arith) (omega arith)) λ f hf.
      ap (λ (o : Parsed Forest). o >>= (λ g. done (f.0 ⊕ g.0, g.1)))
      (until_fuel n n' f.1 _ (let x = hf.on in omega arith) (let x = hf.on in omega arith) hf.lent))

  -- the loop's equation
  pub until_step : (at row : ℕ) → row ≤ rows_lent → until m (length m) gap closing item at row
      ≡ (byte m (gap at) >>= (λ b. when eqb b closing then done (none, gap at) else (item ⨾ until m (length m) gap closing item) (gap at) row))
  unfolding until ◌⨾◌
  until_step at row l = until_fuel (length m) (suc (length m)) at row (omega arith) (omega arith) l
