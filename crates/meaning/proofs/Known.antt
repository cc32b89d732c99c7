-- Reading that succeeds: a rule for each form of the definitions, where the bytes from a place on are known. Assumes nothing.
use Prim.Native.Nat.{ℕ, zero, suc, ◌+◌, ◌≤◌, ◌<◌}
use mathlib.Core.Path.{◌≡◌, refl, sym, ap, subst, ◌∙◌}
use mathlib.Core.Bool.{Bool, true, false, not}
use mathlib.Core.List.{List, [], ◌∷◌, ◌++◌}
use native.Mathlib.Omega.{arith}
use native.Mathlib.Nat.{add-zero}
use lib.ListN.{length, get_or, take, drop, length-append, length-drop}
use lib.Seq.{drop-drop, drop-append_seam, take-append_seam, get_or-drop, take-take}
use lib.Dec.{leb, ltb}
use borrow.Author.Tests.{lt-ltb, le-leb, not-true}
use Rattle.format.specs.Conditions.{when◌then◌else◌, among, all}
use Rattle.format.specs.Outcome.{Outcome, done, ◌>>=◌, ◌>>◌, guard}
use Rattle.format.specs.Limits.{limit}
use Rattle.format.specs.Refusals.{ends_too_early, not_allowed, wrong_content, no_row_left}
use Rattle.format.specs.Marks.{is_integer, integers, is_signed, signed_integers, width, 'N'}
use Rattle.format.specs.Tokens.{Forest}
use Rattle.format.specs.Bytes.{bytes, byte, one_of, reach, little}
use Rattle.format.specs.Content.{is_content, content, payload_end}
use Rattle.format.specs.Integers.{is_negative, smallest, number, integer_to, integer}
use Rattle.format.specs.HouseForm.{digits, small_integer}
use Rattle.format.specs.Sequences.{Reader, row_left, spaced}
use Rattle.format.proofs.Noops.{skip_here}
use Rattle.format.proofs.IntegerCases.{number-done}
use Rattle.format.proofs.Parts.{length-bytes}
use Rattle.format.proofs.Little.{length_digits}
use Rattle.meaning.proofs.Numbers.{little-digits, smallest_passes, smallest_holds}

-- an answer that isn't a refusal, and of which P holds
pub data Succeeds {A : Type 0} (P : A → Type 0) : Outcome A → Type 0 where
  succeeds : {a : A} → P a → Succeeds P (done a)

-- used
pub answer : {A : Type 0} {P : A → Type 0} {o : Outcome A} → Succeeds P o → (a : A) × (o ≡ done a) × P a
answer (succeeds {a = a} p) = (a, refl, p)

-- ---- one step and then the rest

-- what the first gives, and the rest with it
pub after : {A B : Type 0} {P : B → Type 0} {Q : A → Type 0} {o : Outcome A} {f : A → Outcome B}
    → Succeeds Q o → ((a : A) → Q a → Succeeds P (f a)) → Succeeds P (o >>= f)
unfolding ◌>>=◌
after (succeeds {a = a} q) k = k a q

-- a first step whose answer is known
pub known : {A B : Type 0} {P : B → Type 0} {o : Outcome A} (f : A → Outcome B) (a : A) → o ≡ done a → Succeeds P (f a) → Succeeds P (o >>= f)
unfolding ◌>>=◌
known f a e k = rw e k

pub then_known : {A : Type 0} {P : A → Type 0} {o : Outcome (Unit {0})} {r : Outcome A} → o ≡ done tt → Succeeds P r → Succeeds P (o >> r)
unfolding ◌>>◌
then_known e k = rw e k

-- what follows from it holds too
pub better : {A : Type 0} {P Q : A → Type 0} {o : Outcome A} → ((a : A) → Q a → P a) → Succeeds Q o → Succeeds P o
better k (succeeds {a = a} q) = succeeds (k a q)

-- ---- tests

pub passes : (b : Bool) (n p : ℕ) → b ≡ true → guard b n p ≡ done tt
unfolding guard
passes b n p e = rw e

pub guard_known : {A : Type 0} {P : A → Type 0} {r : Outcome A} (b : Bool) (n p : ℕ) → b ≡ true → Succeeds P r → Succeeds P (guard b n p >> r)
guard_known b n p e k = then_known (passes b n p e) k

pub taken : {A : Type 0} {P : A → Type 0} (b : Bool) {x : Outcome A} (y : Outcome A) → b ≡ true → Succeeds P x → Succeeds P (when b then x else y)
unfolding when◌then◌else◌
taken b y e g = rw e g

pub passed : {A : Type 0} {P : A → Type 0} (b : Bool) (x : Outcome A) {y : Outcome A} → b ≡ false → Succeeds P y → Succeeds P (when b then x else y)
unfolding when◌then◌else◌
passed b x e g = rw e g

-- ---- parts of bytes

take-drop-take : (w k n : ℕ) (l : List ℕ) → k + w ≤ n → take w (drop k (take n l)) ≡ take w (drop k l)
take-drop-take w zero n l h = take-take w n l (omega arith)
take-drop-take w (suc k) zero l h = absurd (omega arith)
take-drop-take w (suc k) (suc n) [] h = refl
take-drop-take w (suc k) (suc n) (x ∷ l) h = take-drop-take w k n l (omega arith)

-- a part of a part of the message
pub bytes_part : (m : List ℕ) (first n k w : ℕ) → k + w ≤ n → bytes m (first + k) w ≡ take w (drop k (bytes m first n))
unfolding bytes
bytes_part m first n k w h = rw (take-drop-take w k n (drop first m) h, drop-drop k first m)

-- n bytes of a message that are right content under a mark
pub record Content (m : List ℕ) (mark start n : ℕ) : Type 0 where
  pub inside : start + n ≤ length m
  pub right : is_content mark (bytes m start n) ≡ true

module _ (h : List ℕ) where
  -- the message from a place on
  pub record From (at : ℕ) (l : List ℕ) : Type 0 where
    pub here : at ≤ length h
    pub rest : drop at h ≡ l

  -- so many bytes are left
  pub from_length : (at : ℕ) (l : List ℕ) → From at l → at + length l ≡ length h
  from_length at l e = let a = e.here in omega (arith, ap length e.rest, length-drop at h)

  -- past some bytes
  pub from_past : {at : ℕ} {l : List ℕ} (x : List ℕ) → From at (x ++ l) → From (at + length x) l
  from_past {at} {l} x e = record {
    here = omega (arith, from_length at (x ++ l) e, length-append x l);
    rest = sym (drop-drop (length x) at h) ∙ rw e.rest (drop-append_seam x l);
  }

  -- past bytes of which only the number is known
  pub from_after : {at : ℕ} {l : List ℕ} (n : ℕ) (x : List ℕ) → length x ≡ n → From at (x ++ l) → From (at + n) l
  from_after {at} {l} n x w e = subst (λ k. From (at + k) l) w (from_past x e)

  -- the bytes that stand there
  pub from_bytes : (at n : ℕ) (x l : List ℕ) → length x ≡ n → From at (x ++ l) → bytes h at n ≡ x
  unfolding bytes
  from_bytes at n x l w e = rw (← w, e.rest) (take-append_seam x l)

  pub byte_at : (at b : ℕ) (l : List ℕ) → From at (b ∷ l) → get_or h at 0 ≡ b
  byte_at at b l e = ap (λ n. get_or h n 0) (sym (add-zero at)) ∙ sym (get_or-drop at h 0 0) ∙ ap (λ x. get_or x 0 0) e.rest

  byte_is : (at b : ℕ) (l : List ℕ) → From at (b ∷ l) → byte h at ≡ done b
  unfolding byte ◌>>◌
  byte_is at b l e =
      let u : at < length h = omega (arith, from_length at (b ∷ l) e) in
      rw (passes (ltb at (length h)) ends_too_early (length h) (lt-ltb at (length h) u), byte_at at b l e)

  pub byte_known : {A : Type 0} {P : A → Type 0} {at b : ℕ} {l : List ℕ} (f : ℕ → Outcome A) → From at (b ∷ l) → Succeeds P (f b) → Succeeds P (byte h at >>= f)
  byte_known {at = at} {b = b} {l = l} f e k = known f b (byte_is at b l e) k

  one_of_is : (allowed : ℕ → Bool) (at b : ℕ) (l : List ℕ) → From at (b ∷ l) → allowed b ≡ true → one_of h allowed at ≡ done b
  unfolding one_of ◌>>=◌ ◌>>◌
  one_of_is allowed at b l e t = rw (byte_is at b l e, passes (allowed b) not_allowed at t)

  pub one_of_known : {A : Type 0} {P : A → Type 0} (allowed : ℕ → Bool) {at b : ℕ} {l : List ℕ} (f : ℕ → Outcome A) → From at (b ∷ l) → allowed b ≡ true
      → Succeeds P (f b) → Succeeds P (one_of h allowed at >>= f)
  one_of_known allowed {at = at} {b = b} {l = l} f e t k = known f b (one_of_is allowed at b l e t) k

  reach_is : (end : ℕ) → end ≤ length h → reach h end ≡ done tt
  unfolding reach
  reach_is end l = passes (leb end (length h)) ends_too_early (length h) (le-leb end (length h) l)

  pub reach_known : {A : Type 0} {P : A → Type 0} {r : Outcome A} (end : ℕ) → end ≤ length h → Succeeds P r → Succeeds P (reach h end >> r)
  reach_known end l k = then_known (reach_is end l) k

  -- ---- a number in house form

  module _ (n : ℕ) (u : n ≤ limit) where
    number_is : (place at : ℕ) (l : List ℕ) → From at (digits (width (smallest n)) n ++ l)
        → number h limit (smallest n) place at ≡ done (n, at + width (smallest n))
    unfolding is_negative is_signed signed_integers among all
    number_is place at l e =
        let w : ℕ = width (smallest n) in
        let d = length_digits w n in
        let r : at + w ≤ length h = omega (arith, from_length at _ e, length-append (digits w n) l) in
        let x : little (bytes h at w) ≡ n = ap little (from_bytes at w (digits w n) l d e) ∙ little-digits w n (smallest_holds n u) in
        let s : is_negative (smallest n) n ≡ false = smallest_unsigned in
        rw x at (number-done h limit (smallest n) place at r (rw x s) (rw x u))
      where
        smallest_unsigned : is_negative (smallest n) n ≡ false
        smallest_unsigned = not-true (is_negative (smallest n) n) (smallest_passes (λ k. not (is_negative k n)) n refl)

    past_digits : (at : ℕ) (l : List ℕ) → From at (digits (width (smallest n)) n ++ l) → From (at + width (smallest n)) l
    past_digits at l e = from_after (width (smallest n)) (digits (width (smallest n)) n) (length_digits (width (smallest n)) n) e

    pub number_known : {A : Type 0} {P : A → Type 0} {at : ℕ} (place : ℕ) {l : List ℕ} (f : ℕ × ℕ → Outcome A) → From at (digits (width (smallest n)) n ++ l)
        → ((next : ℕ) → From next l → Succeeds P (f (n, next))) → Succeeds P (number h limit (smallest n) place at >>= f)
    number_known {at = at} place {l = l} f e k = known f _ (number_is place at l e) (k _ (past_digits at l e))

    pub small_mark : is_integer (smallest n) ≡ true
    unfolding is_integer integers among all
    small_mark = smallest_passes is_integer n refl

    pub integer_known : {A : Type 0} {P : A → Type 0} {at : ℕ} {l : List ℕ} (f : ℕ × ℕ → Outcome A) → From at (small_integer n ++ l)
        → ((next : ℕ) → From next l → Succeeds P (f (n, next))) → Succeeds P (integer h at >>= f)
    unfolding integer_to small_integer ◌>>=◌
    integer_known {at = at} {l = l} f e k =
        let d : From (at + 1) (digits (width (smallest n)) n ++ l) = from_past (smallest n ∷ []) e in
        rw (one_of_is is_integer at (smallest n) _ e small_mark) (number_known at f d k)

  -- ---- content that was copied from the message m

  pub payload_known : {A : Type 0} {P : A → Type 0} (m : List ℕ) (mark start n : ℕ) {at : ℕ} (l : List ℕ) (f : ℕ → Outcome A) → Content m mark start n → From at (bytes m start n ++ l)
      → (From (at + n) l → bytes h at n ≡ bytes m start n → Succeeds P (f (at + n))) → Succeeds P (payload_end h mark at n >>= f)
  unfolding payload_end content ◌>>◌
  payload_known m mark start n {at = at} l f c e k =
      let w = length-bytes m start n c.inside in
      let x : bytes h at n ≡ bytes m start n = from_bytes at n (bytes m start n) l w e in
      let p : From (at + n) l = from_after n (bytes m start n) w e in
      known f (at + n) (rw (reach_is (at + n) p.here, x, passes (is_content mark (bytes m start n)) wrong_content at c.right)) (k p x)

  -- ---- a number that was copied from the message m

  copied_number_known : {A : Type 0} {P : A → Type 0} (m : List ℕ) (highest mark place start n : ℕ) {at : ℕ} (l : List ℕ) (f : ℕ × ℕ → Outcome A)
      → start + width mark ≤ length m → little (bytes m start (width mark)) ≡ n → is_negative mark n ≡ false → n ≤ highest → From at (bytes m start (width mark) ++ l)
      → (From (at + width mark) l → bytes h at (width mark) ≡ bytes m start (width mark) → Succeeds P (f (n, at + width mark)))
      → Succeeds P (number h highest mark place at >>= f)
  copied_number_known m highest mark place start n {at = at} l f i v s u e k =
      let w = length-bytes m start (width mark) i in
      let x : bytes h at (width mark) ≡ bytes m start (width mark) = from_bytes at (width mark) (bytes m start (width mark)) l w e in
      let y : little (bytes h at (width mark)) ≡ n = ap little x ∙ v in
      let p : From (at + width mark) l = from_after (width mark) (bytes m start (width mark)) w e in
      known f _ (rw y at (number-done h highest mark place at p.here (rw y s) (rw y u))) (k p x)

  -- and with its mark
  pub copied_integer_known : {A : Type 0} {P : A → Type 0} (m : List ℕ) (highest mark start n : ℕ) {at : ℕ} (l : List ℕ) (f : ℕ × ℕ → Outcome A) → is_integer mark ≡ true
      → start + width mark ≤ length m → little (bytes m start (width mark)) ≡ n → is_negative mark n ≡ false → n ≤ highest → From at (mark ∷ (bytes m start (width mark) ++ l))
      → (From (at + 1 + width mark) l → bytes h (at + 1) (width mark) ≡ bytes m start (width mark) → Succeeds P (f (n, at + 1 + width mark)))
      → Succeeds P (integer_to h highest at >>= f)
  unfolding integer_to ◌>>=◌
  copied_integer_known m highest mark start n {at = at} l f q i v s u e k =
      rw (one_of_is is_integer at mark _ e q) (copied_number_known m highest mark at start n l f i v s u (from_past (mark ∷ []) e) k)

  -- ---- rows, and no `N`

  pub row_known : {A : Type 0} {P : A → Type 0} {r : Outcome A} (rows_lent at row : ℕ) → row < rows_lent → Succeeds P r → Succeeds P (row_left rows_lent at row >> r)
  unfolding row_left
  row_known rows_lent at row l k = then_known (passes (ltb row rows_lent) no_row_left at (lt-ltb row rows_lent l)) k

  pub spaced_known : {P : Forest × ℕ → Type 0} (reader : Reader) {at b : ℕ} (row : ℕ) {l : List ℕ} → From at (b ∷ l) → (b ≡ 'N' → ⊥)
      → Succeeds P (reader at row) → Succeeds P (spaced h reader at row)
  unfolding spaced
  spaced_known reader {at} {b} row {l} e t k =
      let u : at < length h = omega (arith, from_length at (b ∷ l) e) in
      rw (skip_here h at u (λ x. t (sym (byte_at at b l e) ∙ x))) k
