-- Two messages read side by side, each with so many rows lent: the rules that a relation of two answers must keep to, to hold of what
-- every reader answers. Assumes nothing.
use Prim.Native.Nat.{ℕ, ◌+◌, ◌≤◌, ◌<◌}
use mathlib.Core.Path.{◌≡◌}
use mathlib.Core.Bool.{Bool, true, false, ◌&&◌}
use mathlib.Core.List.{List}
use native.Mathlib.Omega.{arith}
use lib.ListN.{length, get_or}
use Rattle.format.specs.Outcome.{Outcome, fault, done, Parsed, ◌>>=◌, ◌>>◌, guard}
use Rattle.format.specs.Conditions.{when◌then◌else◌}
use Rattle.format.specs.Grammars.{Grammar}
use Rattle.format.specs.Refusals.{ends_too_early, not_allowed}
use Rattle.format.specs.Marks.{width, 'E'}
use Rattle.format.specs.Tokens.{Token, Forest, none, node}
use Rattle.format.specs.Storage.{Slot}
use Rattle.format.specs.Bytes.{skip, reach, byte}
use Rattle.format.specs.Content.{contents, payload_end}
use Rattle.format.specs.Integers.{number}
use Rattle.format.specs.Sequences.{Reader, row_left, ◌⨾◌}
use Rattle.laws.specs.Places.{InSlots}
use Rattle.laws.proofs.Holds.{Holds}
use Rattle.laws.proofs.Order.{is_cut}
use Rattle.laws.proofs.Slotless.{none_slotless}
use Rattle.laws.proofs.Bounds.{Starts}
use Rattle.laws.proofs.Slots.{Inside}

-- what a part of the message has: its tokens, and the place after it
abbrev pub Part : Type 0
Part = Forest × ℕ

-- a part as one without tokens; one that ends later than where it stopped; and as it is
abbrev pub header : {A : Type 0} → (A → ℕ) → A → Part
header next a = (none, next a)

abbrev pub up_to : (ℕ → ℕ) → Part → Part
up_to end r = (r.0, end r.1)

abbrev pub whole : Part → Part
whole = up_to (λ next. next)

-- a part goes on to `least` at least, and so do the payloads in it that are cut into slots
pub record Passes (least : ℕ) (p : Part) : Type 0 where
  pub on : least ≤ p.1
  pub cut : (i : ℕ) → InSlots i p.0 → (least ≤ i) × (i < p.1)

pub passes_less : {least least' : ℕ} {p : Part} → least ≤ least' → Passes least' p → Passes least p
passes_less h s = let x = s.on in record { on = omega arith; cut = λ i c. let y = s.cut i c in (omega arith, y.1) }

pub nothing_passes : (least next : ℕ) → least ≤ next → Passes least (none, next)
nothing_passes least next h = record { on = h; cut = λ i c. absurd (none_slotless i c) }

-- a relation of what a part that starts at `from` and passes `least` answers, of the one message and of the other
abbrev pub Relation : Type 1
Relation = (A : Type 0) → (A → Part) → ℕ → ℕ → Outcome A → Outcome A → Type 0

-- the rules, one for each form of the definitions
pub record Rules (m m' : List ℕ) (r r' : ℕ) (g g' : Grammar) (R : Relation) : Type 1 where
  pub longer : length m ≤ length m'
  -- the end of a part; a refusal; and one because the first message ended
  pub finish : {A : Type 0} {part : A → Part} {from least : ℕ} (a : A) → Passes least (part a) → R A part from least (done a) (done a)
  pub refuse : {A : Type 0} {part : A → Part} {from least : ℕ} (n p : ℕ) → R A part from least (fault n p) (fault n p)
  pub ended : {A : Type 0} {part : A → Part} {from least : ℕ} (o : Outcome A) → (length m' ≡ length m → o ≡ fault ends_too_early (length m))
      → R A part from least (fault ends_too_early (length m)) o
  -- said from an earlier place on; and without the tokens
  pub lower : {A : Type 0} {part : A → Part} {from least from' least' : ℕ} {o o' : Outcome A} → from ≤ from' → least ≤ least'
      → R A part from' least' o o' → R A part from least o o'
  pub headed : {from least : ℕ} {o o' : Parsed Forest} → R Part whole from least o o' → R Part (header (λ (r : Part). r.1)) from least o o'
  -- tests
  pub test : {A : Type 0} {part : A → Part} {from least : ℕ} {o o' : Outcome A} (b : Bool) (n p : ℕ) → (b ≡ true → R A part from least o o')
      → R A part from least (guard b n p >> o) (guard b n p >> o')
  pub row_left_lem : {A : Type 0} {part : A → Part} {from least : ℕ} {o o' : Outcome A} (at row : ℕ) → R A part from least o o'
      → R A part from least (row_left r at row >> o) (row_left r' at row >> o')
  -- an extension, where the grammar has them and `E` stands
  pub extended : {A : Type 0} {part : A → Part} {from least : ℕ} {o o' : Outcome A} (b : Bool) (p : ℕ) → (b ≡ true → get_or m p 0 ≡ 'E') → R A part from least o o'
      → R A part from least (when g.extensions && b then o else fault not_allowed p) (when g'.extensions && b then o' else fault not_allowed p)
  -- a byte that is looked at, and a number
  pub look : {A : Type 0} {part : A → Part} {k k' : ℕ → Outcome A} (from least at : ℕ) → from ≤ at → at < least
      → ((b : ℕ) → b ≡ get_or m at 0 → R A part from least (k b) (k' b))
      → R A part from least (byte m at >>= k) (byte m' at >>= k')
  pub count : (highest mark place start : ℕ)
      → R (ℕ × ℕ) (header (λ (n : ℕ × ℕ). n.1)) start (start + width mark) (number m highest mark place start) (number m' highest mark place start)
  -- a payload, and one that is cut into slots
  pub payload : {A : Type 0} {part : A → Part} {from least : ℕ} {k k' : ℕ → Outcome A} (mark start n : ℕ)
      → ((next : ℕ) → next ≡ start + n → R A part from least (k next) (k' next))
      → R A part from least (payload_end m mark start n >>= k) (payload_end m' mark start n >>= k')
  pub slots : {A : Type 0} {part : A → Part} {from least : ℕ} {o o' : Outcome A} {ss : List (Slot ℕ)} (start extent : ℕ) → Inside extent ss → R A part from least o o'
      → R A part from least (reach m (start + extent) >> (contents m start ss >> o)) (reach m' (start + extent) >> (contents m' start ss >> o'))
  -- a part without tokens, and the rest
  pub rest : {A B : Type 0} {part : B → Part} {o o' : Outcome A} {k k' : A → Outcome B} {Q : A → Type 0} (next : A → ℕ) (from least : ℕ) → from ≤ least
      → Holds (Unit {0}) Q o → R A (header next) from least o o' → ((a : A) → Q a → R B part (next a) (next a) (k a) (k' a)) → R B part from least (o >>= k) (o' >>= k')
  -- one reader, and then another
  pub seq : (end : ℕ → ℕ) (one one' other other' : Reader) (from least at row : ℕ) → from ≤ least → R Part whole from least (one at row) (one' at row)
      → ((next row : ℕ) → R Part (up_to end) next next (other next row) (other' next row)) → R Part (up_to end) from least ((one ⨾ other) at row) ((one' ⨾ other') at row)
  -- a token over a part
  pub over : {from least : ℕ} {o o' : Parsed Forest} (end : ℕ → ℕ) (t : Part → Token) → ((r : Part) → is_cut (t r).kind ≡ false) → R Part (up_to end) from least o o'
      → R Part whole from least (o >>= (λ r. done (node (t r) r.0 none, end r.1))) (o' >>= (λ r. done (node (t r) r.0 none, end r.1)))
  -- past the `N` that stand here
  pub skipped : {A : Type 0} {part : A → Part} (k k' : ℕ → Outcome A) (at : ℕ) → Starts m k → R A part (skip m at) (skip m at + 1) (k (skip m at)) (k' (skip m at))
      → R A part at (at + 1) (k (skip m at)) (k' (skip m' at))
