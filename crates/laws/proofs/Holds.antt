-- What holds of an answer: of what was read, and of a refusal because no row was left. A rule for each form of the definitions.
-- Assumes nothing.
use Prim.Native.Nat.{ℕ, ◌+◌}
use mathlib.Core.Path.{◌≡◌, refl, sym, subst, ◌∙◌}
use mathlib.Core.Bool.{Bool, true, false, false≢true}
use native.Mathlib.Omega.{arith}
use lib.Dec.{eqb}
use borrow.Author.Tests.{eq-eqb}
use Rattle.format.specs.Conditions.{when◌then◌else◌}
use Rattle.format.specs.Outcome.{Outcome, fault, done, number_of, ◌>>=◌, ◌>>◌, guard}
use Rattle.format.specs.Refusals.{no_row_left}
use Rattle.format.specs.Tokens.{Forest, size, ◌⊕◌}
use Rattle.format.specs.Sequences.{Reader, ◌⨾◌}

-- P holds of what was read, and Short if it was refused because no row was left
pub data Holds {A : Type 0} (Short : Type 0) (P : A → Type 0) : Outcome A → Type 0 where
  refused : {n p : ℕ} → (n ≡ no_row_left → Short) → Holds Short P (fault n p)
  holds : {a : A} → P a → Holds Short P (done a)

pub bind_law : {A B : Type 0} {S : Type 0} {P : B → Type 0} {Q : A → Type 0} {o : Outcome A} {f : A → Outcome B}
    → Holds S Q o → ((a : A) → Q a → Holds S P (f a)) → Holds S P (o >>= f)
unfolding ◌>>=◌
bind_law (refused s) k = refused s
bind_law (holds {a = a} h) k = k a h

pub then_law : {A : Type 0} {S : Type 0} {P : A → Type 0} {Q : Unit {0} → Type 0} {o : Outcome (Unit {0})} {r : Outcome A}
    → Holds S Q o → (Q tt → Holds S P r) → Holds S P (o >> r)
unfolding ◌>>◌
then_law (refused s) k = refused s
then_law (holds h) k = k h

pub if_law : {A : Type 0} {S : Type 0} {P : A → Type 0} (b : Bool) {x y : Outcome A}
    → (b ≡ true → Holds S P x) → (b ≡ false → Holds S P y) → Holds S P (when b then x else y)
unfolding when◌then◌else◌
if_law true f g = f refl
if_law false f g = g refl

-- one reader, and then another
pub seq_law : {S : Type 0} {P Q : Forest × ℕ → Type 0} (one other : Reader) (at row : ℕ) → Holds S Q (one at row)
    → ((f : Forest × ℕ) → Q f → Holds S (λ g. P (f.0 ⊕ g.0, g.1)) (other f.1 (row + size f.0))) → Holds S P ((one ⨾ other) at row)
unfolding ◌⨾◌
seq_law one other at row q k = bind_law q λ f hf. bind_law (k f hf) λ g hg. holds hg

-- a refusal with another number
pub other : {A : Type 0} {S : Type 0} {P : A → Type 0} {n p : ℕ} → eqb n no_row_left ≡ false → Holds S P (fault n p)
other {n} e = refused λ q. absurd (false≢true (sym e ∙ eq-eqb n no_row_left q))

pub guard_law : {S : Type 0} (b : Bool) (n p : ℕ) → eqb n no_row_left ≡ false → Holds S (λ _. b ≡ true) (guard b n p)
unfolding guard
guard_law true n p e = holds refl
guard_law false n p e = other e

-- of any answer
pub any_law : {A : Type 0} (o : Outcome A) → Holds (Unit {0}) (λ _. Unit {0}) o
any_law (fault n p) = refused λ _. tt
any_law (done a) = holds tt

pub weaken : {A : Type 0} {S : Type 0} {P Q : A → Type 0} {o : Outcome A} → ((a : A) → Q a → P a) → Holds S Q o → Holds S P o
weaken k (refused s) = refused s
weaken k (holds {a = a} h) = holds (k a h)

pub relax : {A : Type 0} {S S' : Type 0} {P : A → Type 0} {o : Outcome A} → (S → S') → Holds S P o → Holds S' P o
relax k (refused s) = refused λ e. k (s e)
relax k (holds h) = holds h

pub both : {A : Type 0} {S S' : Type 0} {P Q : A → Type 0} {o : Outcome A} → Holds S P o → Holds S' Q o → Holds S (λ a. P a × Q a) o
both (refused s) (refused r) = refused s
both (holds p) (holds q) = holds (p, q)

-- used
pub of_done : {A : Type 0} {S : Type 0} {P : A → Type 0} {o : Outcome A} (a : A) → Holds S P o → o ≡ done a → P a
of_done a (refused s) e = let z : ◌≡◌ {A = ℕ} 0 1 = cc in absurd (omega arith)
of_done {P = P} a (holds {a = b} h) e = let q : b ≡ a = cc in subst P q h

pub of_short : {A : Type 0} {S : Type 0} {P : A → Type 0} {o : Outcome A} → Holds S P o → number_of o ≡ no_row_left → S
unfolding number_of
of_short (refused s) e = s e
of_short (holds h) e = absurd (omega arith)
