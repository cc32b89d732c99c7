-- Back from what was read to what read it. Assumes nothing.
use Prim.Native.Nat.{ℕ, zero, suc, ◌+◌, ◌≤◌, ◌<◌}
use mathlib.Core.Path.{◌≡◌, refl, sym, ap, ◌∙◌}
use mathlib.Core.List.{List}
use native.Mathlib.Omega.{arith}
use lib.ListN.{length, get_or}
use borrow.Author.Tests.{lt-ltb, le-ltb, eq-eqb, ne_eqb}
use Rattle.format.specs.Conditions.{when◌then◌else◌}
use Rattle.format.specs.Outcome.{Outcome, fault, done, ◌>>=◌, ◌>>◌, guard}
use Rattle.format.specs.Tokens.{Forest, none, size, ◌⊕◌}
use Rattle.format.specs.Bytes.{byte}
use Rattle.format.specs.Sequences.{Reader, ◌⨾◌, until}

-- a refusal gives nothing
pub no_fault : {A : Type 0} {C : Type 0} (o : Outcome A) (n p : ℕ) (a : A) → o ≡ fault n p → o ≡ done a → C
no_fault o n p a e h = let z : ◌≡◌ {A = ℕ} 0 1 = cc in absurd (omega arith)

pub bind_back : {A B : Type 0} (o : Outcome A) (k : A → Outcome B) (b : B) → (o >>= k) ≡ done b → (a : A) × (o ≡ done a) × (k a ≡ done b)
unfolding ◌>>=◌
bind_back (fault n p) k b e = no_fault (fault n p) n p b refl e
bind_back (done a) k b e = (a, refl, e)

-- what was read, and the place after it
pub parts : {A B : Type 0} {a c : A} {b d : B} → ◌≡◌ {A = Outcome (A × B)} (done (a, b)) (done (c, d)) → (a ≡ c) × (b ≡ d)
parts {A} {B} {a} {c} {b} {d} e = let q : ◌≡◌ {A = A × B} (a, b) (c, d) = cc in (ap (λ r. r.0) q, ap (λ r. r.1) q)

-- one, and then another
pub record Both (one other : Reader) (at row : ℕ) (f : Forest) (end : ℕ) : Type 0 where
  pub first : Forest
  pub next : ℕ
  pub read : one at row ≡ done (first, next)
  pub rest : Forest
  pub others : other next (row + size first) ≡ done (rest, end)
  pub whole : f ≡ first ⊕ rest

pub seq_back : (one other : Reader) (at row : ℕ) (f : Forest) (end : ℕ) → (one ⨾ other) at row ≡ done (f, end) → Both one other at row f end
unfolding ◌⨾◌
seq_back one other at row f end e =
    let a = bind_back (one at row) _ (f, end) e in
    let b = bind_back (other a.0.1 (row + size a.0.0)) _ (f, end) a.2 in
    let q = parts b.2 in
    record { first = a.0.0; next = a.0.1; read = a.1; rest = b.0.0; others = b.1 ∙ ap (λ (n : ℕ). done (b.0.0, n)) q.1; whole = sym q.0 }

-- members up to a closing mark: a byte stands where one may begin, which is the mark, or a member begins there
module _ (m : List ℕ) (gap : ℕ → ℕ) (closing : ℕ) (item : Reader) where
  pub until_there : (fuel at row : ℕ) (r : Forest × ℕ) → until m fuel gap closing item at row ≡ done r → length m ≤ gap at → ⊥
  unfolding until byte guard ◌>>◌ ◌>>=◌
  until_there zero at row r e h = no_fault _ _ _ r refl e
  until_there (suc fuel) at row r e h = no_fault _ _ _ r refl (rw (le-ltb _ _ h) at e)

  module _ (at row : ℕ) (f : Forest) (end : ℕ) (there : gap at < length m) where
    pub until_stops : (fuel : ℕ) → until m fuel gap closing item at row ≡ done (f, end) → get_or m (gap at) 0 ≡ closing → (f ≡ none) × (end ≡ gap at)
    unfolding until byte guard ◌>>◌ ◌>>=◌ when◌then◌else◌
    until_stops zero e c = no_fault _ _ _ (f, end) refl e
    until_stops (suc fuel) e c = let q = parts (rw (lt-ltb _ _ there, eq-eqb _ _ c) at e) in (sym q.0, sym q.1)

    pub until_goes : (fuel : ℕ) → until m fuel gap closing item at row ≡ done (f, end) → (get_or m (gap at) 0 ≡ closing → ⊥)
        → (left : ℕ) × ((item ⨾ until m left gap closing item) (gap at) row ≡ done (f, end))
    unfolding until byte guard ◌>>◌ ◌>>=◌ when◌then◌else◌
    until_goes zero e c = no_fault _ _ _ (f, end) refl e
    until_goes (suc fuel) e c = (fuel, rw (lt-ltb _ _ there, ne_eqb _ _ c) at e)
