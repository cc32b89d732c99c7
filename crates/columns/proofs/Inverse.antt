-- What was read, taken apart: if the whole is done, so is each part. Assumes nothing.
use Prim.Native.Nat.{ℕ, ◌+◌}
use mathlib.Core.Path.{◌≡◌, refl, sym, ap, ◌∙◌}
use native.Mathlib.Omega.{arith}
use Rattle.format.specs.Outcome.{Outcome, fault, done, ◌>>=◌, ◌>>◌}
use Rattle.format.specs.Tokens.{Forest, size, ◌⊕◌}
use Rattle.format.specs.Sequences.{Reader, ◌⨾◌}

pub never : {A : Type 0} {n p : ℕ} {a : A} → fault n p ≡ done a → ⊥
never e = let z : ◌≡◌ {A = ℕ} 0 1 = cc in omega arith

pub done_pair : {A B : Type 0} {a c : A} {b d : B} → ◌≡◌ {A = Outcome (A × B)} (done (a, b)) (done (c, d)) → (a ≡ c) × (b ≡ d)
done_pair {A} {B} {a} {c} {b} {d} e = let p : ◌≡◌ {A = A × B} (a, b) (c, d) = cc in (ap (λ (x : A × B). x.0) p, ap (λ (x : A × B). x.1) p)

pub bind_done : {A B : Type 0} (o : Outcome A) (f : A → Outcome B) {b : B} → (o >>= f) ≡ done b → (a : A) × (o ≡ done a) × (f a ≡ done b)
unfolding ◌>>=◌
bind_done (fault n p) f e = absurd (never e)
bind_done (done a) f e = (a, refl, e)

pub then_done : {B : Type 0} (o : Outcome (Unit {0})) (r : Outcome B) {b : B} → (o >> r) ≡ done b → (o ≡ done tt) × (r ≡ done b)
unfolding ◌>>◌
then_done (fault n p) r e = absurd (never e)
then_done (done tt) r e = (refl, e)

-- one, and then another
pub record Both (one other : Reader) (at row : ℕ) (f : Forest) (end : ℕ) : Type 0 where
  pub former : Forest
  pub mid : ℕ
  pub latter : Forest
  pub first : one at row ≡ done (former, mid)
  pub second : other mid (row + size former) ≡ done (latter, end)
  pub is : f ≡ former ⊕ latter

pub seq_done : (one other : Reader) (at row : ℕ) (f : Forest) (end : ℕ) → (one ⨾ other) at row ≡ done (f, end) → Both one other at row f end
unfolding ◌⨾◌
seq_done one other at row f end e =
    let x = bind_done (one at row) _ e in
    let y = bind_done (other x.0.1 (row + size x.0.0)) _ x.2 in
    let q = done_pair y.2 in
    let j = q.1 in
    record { former = x.0.0; mid = x.0.1; latter = y.0.0; first = x.1; second = y.1 ∙ ap (λ (z : ℕ). done (y.0.0, z)) j; is = sym q.0 }
