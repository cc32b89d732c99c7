-- Two answers that are the same, unless the first is a refusal with a number and place that are free to change: a rule for each form of the
-- definitions. Assumes nothing.
use Prim.Native.Nat.{ℕ}
use mathlib.Core.Path.{◌≡◌, refl, subst₂}
use mathlib.Core.Bool.{Bool, true, false, false≢true}
use Rattle.format.specs.Outcome.{Outcome, fault, ◌>>=◌, ◌>>◌, guard, number_of, place_of}
use Rattle.format.specs.Sequences.{Reader, ◌⨾◌}
use Rattle.laws.proofs.Holds.{Holds, refused, holds, any_law}

pub data Keeps (free : ℕ → ℕ → Type 0) {A : Type 0} : Outcome A → Outcome A → Type 0 where
  early : {n p : ℕ} {o : Outcome A} → free n p → Keeps free (fault n p) o
  same : {o : Outcome A} → Keeps free o o

-- with what holds of the first answer, and without
pub bind_kept : {free : ℕ → ℕ → Type 0} {A B : Type 0} {S : Type 0} {Q : A → Type 0} {o o' : Outcome A} {f f' : A → Outcome B}
    → Holds S Q o → Keeps free o o' → ((a : A) → Q a → Keeps free (f a) (f' a)) → Keeps free (o >>= f) (o' >>= f')
unfolding ◌>>=◌
bind_kept (refused s) (early e) k = early e
bind_kept (refused s) same k = same
bind_kept (holds {a = a} h) same k = k a h

pub then_kept : {free : ℕ → ℕ → Type 0} {A : Type 0} {S : Type 0} {Q : Unit {0} → Type 0} {o o' : Outcome (Unit {0})} {r r' : Outcome A}
    → Holds S Q o → Keeps free o o' → (Q tt → Keeps free r r') → Keeps free (o >> r) (o' >> r')
unfolding ◌>>◌
then_kept (refused s) (early e) k = early e
then_kept (refused s) same k = same
then_kept (holds h) same k = k h

pub bind_keeps : {free : ℕ → ℕ → Type 0} {A B : Type 0} {o o' : Outcome A} {f f' : A → Outcome B}
    → Keeps free o o' → ((a : A) → Keeps free (f a) (f' a)) → Keeps free (o >>= f) (o' >>= f')
bind_keeps a k = bind_kept (any_law _) a λ x _. k x

pub then_keeps : {free : ℕ → ℕ → Type 0} {A : Type 0} {o o' : Outcome (Unit {0})} {r r' : Outcome A}
    → Keeps free o o' → Keeps free r r' → Keeps free (o >> r) (o' >> r')
then_keeps a k = then_kept (any_law _) a λ _. k

-- the same test of both
pub test_keeps : {free : ℕ → ℕ → Type 0} {A : Type 0} {o o' : Outcome A} (b : Bool) (n p : ℕ) → (b ≡ true → Keeps free o o')
    → Keeps free (guard b n p >> o) (guard b n p >> o')
unfolding guard ◌>>◌
test_keeps true n p k = k refl
test_keeps false n p k = same

-- a test whose refusal is free, and that passes the second time if it passes the first
pub guard_keeps : {free : ℕ → ℕ → Type 0} (b b' : Bool) (n p p' : ℕ) → free n p → (b ≡ true → b' ≡ true) → Keeps free (guard b n p) (guard b' n p')
unfolding guard
guard_keeps false b' n p p' e h = early e
guard_keeps true true n p p' e h = same
guard_keeps true false n p p' e h = absurd (false≢true (h refl))

-- one reader, and then another
pub seq_keeps : {free : ℕ → ℕ → Type 0} (one one' other other' : Reader) (at row : ℕ) → Keeps free (one at row) (one' at row)
    → ((next row : ℕ) → Keeps free (other next row) (other' next row)) → Keeps free ((one ⨾ other) at row) ((one' ⨾ other') at row)
unfolding ◌⨾◌
seq_keeps one one' other other' at row a b = bind_keeps a λ f. bind_keeps (b _ _) λ _. same

-- used: of a refusal that isn't free to change
abbrev pub Refuses : (ℕ → ℕ → Type 0) → {A : Type 0} → Outcome A → Outcome A → Type 0
Refuses free o o' = (n p : ℕ) → (free n p → ⊥) → o ≡ fault n p → o' ≡ fault n p

pub bind_refuses : {free : ℕ → ℕ → Type 0} {A B : Type 0} {S : Type 0} {Q : A → Type 0} {o o' : Outcome A} {f f' : A → Outcome B}
    → Holds S Q o → Keeps free o o' → ((a : A) → Q a → Refuses free (f a) (f' a)) → Refuses free (o >>= f) (o' >>= f')
unfolding ◌>>=◌
bind_refuses {free} (refused s) (early {n = k} {p = l} f) r n p c e = let q : k ≡ n = cc in let j : l ≡ p = cc in absurd (c (subst₂ free q j f))
bind_refuses (refused s) same r n p c e = e
bind_refuses (holds {a = a} h) same r n p c e = r a h n p c e

-- of any answer that isn't free
pub unless_free : {free : ℕ → ℕ → Type 0} {A : Type 0} {o o' : Outcome A} → (free (number_of o) (place_of o) → ⊥) → Keeps free o o' → o' ≡ o
unfolding number_of place_of
unless_free c (early f) = absurd (c f)
unless_free c same = refl
