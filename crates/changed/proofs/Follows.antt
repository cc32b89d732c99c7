-- Two messages of one length read side by side: what was read of the first is read of the second, or the second is refused, if they
-- have the same bytes but for those in payloads that are cut into slots. Assumes nothing.
use Prim.Native.Nat.{ℕ, ◌+◌, ◌≤◌, ◌<◌}
use mathlib.Core.Path.{◌≡◌, refl, sym, ap, ◌∙◌}
use mathlib.Core.Bool.{Bool, true, false}
use mathlib.Core.List.{List}
use mathlib.Core.Logic.{inl, inr}
use native.Mathlib.Omega.{arith}
use lib.ListN.{length, get_or}
use Rattle.format.specs.Grammars.{Grammar}
use Rattle.format.specs.Conditions.{when◌then◌else◌}
use Rattle.format.specs.Refusals.{not_allowed}
use Rattle.format.specs.Outcome.{Outcome, fault, done, Parsed, ◌>>=◌, ◌>>◌, guard}
use Rattle.format.specs.Marks.{width}
use Rattle.format.specs.Tokens.{Token, Forest, none, node}
use Rattle.format.specs.Bytes.{skip, byte}
use Rattle.format.specs.Content.{payload_end}
use Rattle.format.specs.Integers.{number}
use Rattle.format.specs.Sequences.{Reader, ◌⨾◌, spaced}
use Rattle.format.specs.Read as Read
use Rattle.laws.specs.Places.{InSlots}
use Rattle.laws.proofs.Holds.{Holds, refused, holds, bind_law, then_law, any_law, weaken, both}
use Rattle.laws.proofs.Skips.{skip_on}
use Rattle.laws.proofs.Order.{is_cut}
use Rattle.laws.proofs.Slotless.{none_slotless, slots_split, uncut_slots}
use Rattle.laws.proofs.Bounds.{byte_is, payload_end_law}
use Rattle.laws.proofs.Rules.{Part, header, up_to, whole, Passes, passes_less, nothing_passes, Relation, Rules}
use Rattle.laws.proofs.Related.{value_related}
use Rattle.changed.proofs.Fixed.{Fixed, bytes_fixed, skip_fixed}

module _ (m m' : List ℕ) where
  -- the same bytes from one place to another, but for those in a forest's payloads that are cut into slots
  abbrev pub Kept : Forest → ℕ → ℕ → Type 0
  Kept f from end = (i : ℕ) → from ≤ i → i < end → (InSlots i f → ⊥) → get_or m' i 0 ≡ get_or m i 0

  -- of a part that gave `a` of the first message, and `o` of the second: it goes so far and, if the bytes outside its slots are the same,
  -- the second gave `a` too or was refused
  pub record Follows {A : Type 0} (part : A → Part) (from least : ℕ) (o : Outcome A) (a : A) : Type 0 where
    pub passes : Passes least (part a)
    pub same : Kept (part a).0 from (part a).1 → Holds (Unit {0}) (λ b. b ≡ a) o

  -- what the first message gave, the second follows
  abbrev pub Follow : Relation
  Follow A part from least o o' = Holds (Unit {0}) (Follows part from least o') o

  module _ (long : length m' ≡ length m) where
    -- ---- the rules

    finish_follows : {A : Type 0} {part : A → Part} {from least : ℕ} (a : A) → Passes least (part a) → Follow A part from least (done a) (done a)
    finish_follows a h = holds (record { passes = h; same = λ _. holds refl })

    lower_follows : {A : Type 0} {part : A → Part} {from least from' least' : ℕ} {o o' : Outcome A} → from ≤ from' → least ≤ least'
        → Follow A part from' least' o o' → Follow A part from least o o'
    lower_follows h k = weaken λ a f. record {
      passes = passes_less (omega arith) f.passes;
      same = λ c. f.same λ i p. c i (omega arith);
    }

    headed_follows : {from least : ℕ} {o o' : Parsed Forest} → Follow Part whole from least o o' → Follow Part (header (λ (r : Part). r.1)) from least o o'
    headed_follows = weaken λ a f. record {
      passes = nothing_passes _ _ f.passes.on;
      same = λ c. f.same λ i p q _. c i p q (none_slotless i);
    }

    -- a test: that the second message passes it too is all that matters
    test_follows : {A : Type 0} {part : A → Part} {from least : ℕ} {o o' : Outcome A} (t t' : Outcome (Unit {0})) → Follow A part from least o o'
        → Follow A part from least (t >> o) (t' >> o')
    test_follows t t' h = then_law (any_law t) λ _. weaken (λ a f. record { passes = f.passes; same = λ c. then_law (any_law t') λ _. f.same c }) h

    guard_follows : {A : Type 0} {part : A → Part} {from least : ℕ} {o o' : Outcome A} (b : Bool) (n p : ℕ) → (b ≡ true → Follow A part from least o o')
        → Follow A part from least (guard b n p >> o) (guard b n p >> o')
    unfolding guard ◌>>◌
    guard_follows true n p h = h refl
    guard_follows false n p h = refused λ _. tt

    extended_follows : {A : Type 0} {part : A → Part} {from least : ℕ} {o o' : Outcome A} (b : Bool) (p : ℕ) → Follow A part from least o o'
        → Follow A part from least (when b then o else fault not_allowed p) (when b then o' else fault not_allowed p)
    unfolding when◌then◌else◌
    extended_follows true p h = h
    extended_follows false p h = refused λ _. tt

    -- a part that gave `b` of the first message, and the rest: if all is kept, the second gives `b` too, or is refused
    bind_follows : {A B : Type 0} {part : A → Part} {from least from' least' : ℕ} {o : Outcome A} (o' : Outcome B) (k' : B → Outcome A) (b : B)
        → from ≤ from' → least ≤ least'
        → ((a : A) → Passes least' (part a) → Kept (part a).0 from (part a).1 → Holds (Unit {0}) (λ b'. b' ≡ b) o')
        → Follow A part from' least' o (k' b) → Follow A part from least o (o' >>= k')
    bind_follows o' k' b h k l = weaken λ a f. record {
      passes = passes_less (omega arith) f.passes;
      same = λ c. bind_law (l a f.passes c) λ b' e. rw e (f.same λ i p. c i (omega arith));
    }

    -- what is kept of a part up to a place that its slots come after
    before_slots : {from end least : ℕ} (p : Part) → end ≤ least → Passes least p → Kept p.0 from p.1 → Fixed m m' from end
    before_slots p h s c i k l = let x = s.on in c i k (omega arith) λ z. let y = s.cut i z in omega arith

    look_follows : {A : Type 0} {part : A → Part} {k k' : ℕ → Outcome A} (from least at : ℕ) → from ≤ at → at < least
        → ((b : ℕ) → b ≡ get_or m at 0 → Follow A part from least (k b) (k' b))
        → Follow A part from least (byte m at >>= k) (byte m' at >>= k')
    look_follows {part = part} {k' = k'} from least at h l f = bind_law (byte_is m at) λ b e. bind_follows (byte m' at) k' b (omega arith) (omega arith)
        (λ a s c. weaken (λ b' e'. e' ∙ before_slots {end = least} (part a) (omega arith) s c at h l ∙ sym e) (byte_is m' at)) (f b e)

    count_follows : (highest mark place start : ℕ)
        → Follow (ℕ × ℕ) (header (λ (n : ℕ × ℕ). n.1)) start (start + width mark) (number m highest mark place start) (number m' highest mark place start)
    unfolding number
    count_follows highest mark place start = then_law (any_law _) λ _. then_law (any_law _) λ _. then_law (any_law _) λ _. holds (record {
      passes = nothing_passes _ _ (omega arith);
      same = λ c. then_law (any_law _) λ _. then_law (any_law _) λ _. then_law (any_law _) λ _.
          holds (rw (bytes_fixed m m' long start (width mark) (λ i p q. c i p q (none_slotless i))));
    })

    payload_follows : {A : Type 0} {part : A → Part} {from least : ℕ} {k k' : ℕ → Outcome A} (mark start n : ℕ)
        → ((next : ℕ) → next ≡ start + n → Follow A part from least (k next) (k' next))
        → Follow A part from least (payload_end m mark start n >>= k) (payload_end m' mark start n >>= k')
    payload_follows {k' = k'} mark start n h = bind_law (payload_end_law m mark start n) λ next e. bind_follows _ k' next (omega arith) (omega arith)
        (λ _ _ _. weaken (λ next' e'. e'.0 ∙ sym e.0) (payload_end_law m' mark start n)) (h next e.0)

    rest_follows : {A B : Type 0} {part : B → Part} {o o' : Outcome A} {k k' : A → Outcome B} {Q : A → Type 0} (next : A → ℕ) (from least : ℕ) → from ≤ least
        → Holds (Unit {0}) Q o → Follow A (header next) from least o o' → ((a : A) → Q a → Follow B part (next a) (next a) (k a) (k' a))
        → Follow B part from least (o >>= k) (o' >>= k')
    rest_follows {part = part} {o' = o'} {k' = k'} next from least h q t r = bind_law (both q t) λ a f.
        let x = f.1.passes.on in
        bind_follows o' k' a (omega arith) (omega arith)
        (λ b s c. f.1.same λ i p l _. before_slots {end = next a} (part b) (omega arith) s c i p l) (r a f.0)

    seq_follows : (end : ℕ → ℕ) (one one' other other' : Reader) (from least at row : ℕ) → from ≤ least → Follow Part whole from least (one at row) (one' at row)
        → ((next row : ℕ) → Follow Part (up_to end) next next (other next row) (other' next row))
        → Follow Part (up_to end) from least ((one ⨾ other) at row) ((one' ⨾ other') at row)
    unfolding ◌⨾◌
    seq_follows end one one' other other' from least at row h t r = bind_law t λ f hf. bind_law (r f.1 _) λ g hg.
        let x = hf.passes.on in
        let y = hg.passes.on in
        holds (record {
          passes = record {
            on = omega arith;
            cut = λ i c. elim (slots_split f.0 c) [
              | inl d ↦ (let z = hf.passes.cut i d in (z.0, omega arith))
              | inr d ↦ (let z = hg.passes.cut i d in (omega arith, z.1))
            ];
          };
          same = λ c. bind_law
              (hf.same λ i p q n. c i p (omega arith) λ d. elim (slots_split f.0 d) [ inl e ↦ n e | inr e ↦ (let z = hg.passes.cut i e in omega arith) ]) λ f' e.
              rw e (bind_law
              (hg.same λ i p q n. c i (omega arith) q λ d. elim (slots_split f.0 d) [ inl e ↦ (let z = hf.passes.cut i e in omega arith) | inr e ↦ n e ]) λ g' e'.
              rw e' (holds refl));
        })

    over_follows : {from least : ℕ} {o o' : Parsed Forest} (end : ℕ → ℕ) (t : Part → Token) → ((r : Part) → is_cut (t r).kind ≡ false)
        → Follow Part (up_to end) from least o o'
        → Follow Part whole from least (o >>= (λ r. done (node (t r) r.0 none, end r.1))) (o' >>= (λ r. done (node (t r) r.0 none, end r.1)))
    over_follows end t u w = bind_law w λ r f. holds (record {
      passes = record { on = f.passes.on; cut = λ i c. f.passes.cut i (only r i c) };
      same = λ c. bind_law (f.same λ i p q n. c i p q λ d. n (only r i d)) λ r' e. rw e (holds refl);
    })
      where
        only : (r : Part) (i : ℕ) → InSlots i (node (t r) r.0 none) → InSlots i r.0
        only r i c = elim (uncut_slots (u r) c) [ inl d ↦ d | inr d ↦ absurd (none_slotless i d) ]

    skipped_follows : {A : Type 0} {part : A → Part} (k k' : ℕ → Outcome A) (at : ℕ) → Follow A part (skip m at) (skip m at + 1) (k (skip m at)) (k' (skip m at))
        → Follow A part at (at + 1) (k (skip m at)) (k' (skip m' at))
    skipped_follows {part = part} k k' at = let u = skip_on m at in weaken λ a f. record {
      passes = passes_less (omega arith) f.passes;
      same = λ c. let e = skip_fixed m m' long at (before_slots {end = skip m at + 1} (part a) (omega arith) f.passes c) in
          rw e (f.same λ i p. c i (omega arith));
    }

    module _ (rows_lent : ℕ) (grammar : Grammar) where
      rules : Rules m m' rows_lent rows_lent grammar grammar Follow
      rules = record {
        longer = omega arith;
        finish = finish_follows;
        refuse = λ _ _. refused λ _. tt;
        ended = λ _ _. refused λ _. tt;
        lower = lower_follows;
        headed = headed_follows;
        test = guard_follows;
        row_left_lem = λ at row h. test_follows _ _ h;
        extended = λ b p _ h. extended_follows _ p h;
        look = look_follows;
        count = count_follows;
        payload = payload_follows;
        slots = λ start extent _ h. test_follows _ _ (test_follows _ _ h);
        rest = rest_follows;
        seq = seq_follows;
        over = over_follows;
        skipped = λ k k' at _ h. skipped_follows k k' at h;
      }

      -- a message: the same tokens, or a refusal
      pub read_follows : Holds (Unit {0}) (λ f. ((i : ℕ) → (InSlots i f → ⊥) → get_or m' i 0 ≡ get_or m i 0) → Holds (Unit {0}) (λ f'. f' ≡ f) (Read.read m' rows_lent grammar))
          (Read.read m rows_lent grammar)
      unfolding Read.read spaced
      read_follows = then_law (any_law _) λ _. bind_law (value_related m m' rows_lent rows_lent grammar grammar Follow rules _ 0 0) λ r f. then_law (any_law _) λ _.
          holds λ c. then_law (any_law _) λ _. bind_law (f.same λ i _ _ n. c i n) λ r' e. then_law (any_law _) λ _. holds (ap (λ (p : Part). p.0) e)
