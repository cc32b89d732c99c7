-- What a call answers: a refusal, with its number and its place, or what it was asked for.
use Rattle.std.specs.Prelude.{ℕ, Bool, true, false}

pub data Outcome (A : Type 0) : Type 0 where
  fault : ℕ → ℕ → Outcome A
  done : A → Outcome A

-- the number given back: 0 is done
unfoldable pub number_of : {A : Type 0} → Outcome A → ℕ
number_of (fault n p) = n
number_of (done a) = 0

-- the place that goes with it
unfoldable pub place_of : {A : Type 0} → Outcome A → ℕ
place_of (fault n p) = p
place_of (done a) = 0

-- what is answered beside them: zero beside a refusal
unfoldable pub or_zero : Outcome ℕ → ℕ
or_zero (fault n p) = 0
or_zero (done a) = a

-- what reading a part of the message answers: what was read, and the place after it
abbrev pub Parsed : Type 0 → Type 0
Parsed A = Outcome (A × ℕ)

-- first this, then the rest with what it gave; the first fault reached decides
infixl 10 ◌>>=◌
unfoldable pub ◌>>=◌ : {A B : Type 0} → Outcome A → (A → Outcome B) → Outcome B
◌>>=◌ (fault n p) f = fault n p
◌>>=◌ (done a) f = f a

infixl 10 ◌>>◌
unfoldable pub ◌>>◌ : {A : Type 0} → Outcome (Unit {0}) → Outcome A → Outcome A
◌>>◌ (fault n p) o = fault n p
◌>>◌ (done a) o = o

-- a test that refuses
unfoldable pub guard : Bool → ℕ → ℕ → Outcome (Unit {0})
guard true n p = done tt
guard false n p = fault n p
