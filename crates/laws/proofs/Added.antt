-- A message read with some rows lent, and a longer one that begins with it read with as many rows or more: the same, unless the
-- first is refused with 2 and bytes were added, with 8 and rows were, or with 3 at an `E` and the grammar was. Assumes nothing.
use Prim.Native.Nat.{ℕ, suc, ◌+◌, ◌≤◌, ◌<◌}
use mathlib.Core.Path.{◌≡◌, refl, sym, ap}
use mathlib.Core.Bool.{Bool, true, false, ◌&&◌, and-false, false≢true}
use mathlib.Core.List.{List, [], ◌∷◌, ◌++◌, append-nil}
use mathlib.Core.Logic.{◌⊎◌, inl, inr}
use native.Mathlib.Omega.{arith}
use lib.ListN.{length, get_or, drop, length-append, length-drop, get_or-append}
use lib.Seq.{take-append-le, drop-append-le}
use lib.Dec.{ltb, eqb}
use borrow.Author.Tests.{ltb-true, ltb-false, leb-true, lt-ltb, le-leb, eqb-false, ne_eqb}
use Rattle.format.specs.Grammars.{Grammar}
use Rattle.format.specs.Conditions.{when◌then◌else◌}
use Rattle.format.specs.Outcome.{Outcome, fault, done, ◌>>◌, guard}
use Rattle.format.specs.Refusals.{ends_too_early, not_allowed, no_row_left, bytes_after}
use Rattle.format.specs.Marks.{width, 'E', 'N'}
use Rattle.format.specs.Tokens.{Forest}
use Rattle.format.specs.Storage.{Slot}
use Rattle.format.specs.Bytes.{leading_noops, bytes, skip, reach, byte}
use Rattle.format.specs.Content.{content, contents, payload_end}
use Rattle.format.specs.Integers.{number}
use Rattle.format.specs.Sequences.{row_left, spaced}
use Rattle.format.specs.Read as Read
use Rattle.laws.proofs.Holds.{guard_law}
use Rattle.laws.proofs.Skips.{skip_inside}
use Rattle.laws.proofs.Bounds.{Starts, byte_is, reach_law, payload_end_law}
use Rattle.laws.proofs.Slots.{Inside, nil, slot}
use Rattle.laws.proofs.Keeps.{Keeps, early, same, bind_kept, then_kept, bind_keeps, then_keeps, test_keeps, guard_keeps, seq_keeps, Refuses}
use Rattle.laws.proofs.Rules.{Relation, Rules}
use Rattle.laws.proofs.Related.{value_related}

noops_append : (l x : List ℕ) → leading_noops l < length l → leading_noops (l ++ x) ≡ leading_noops l
unfolding leading_noops when◌then◌else◌
noops_append [] x h = absurd (omega arith)
noops_append (b ∷ l) x h = go (noops_append l x) (eqb b 'N') h
  where
    go : (leading_noops l < length l → leading_noops (l ++ x) ≡ leading_noops l) → (t : Bool) → (when t then suc (leading_noops l) else 0) < suc (length l)
        → (when t then suc (leading_noops (l ++ x)) else 0) ≡ (when t then suc (leading_noops l) else 0)
    go rest true h = ap suc (rest (omega arith))
    go rest false h = refl

-- bytes that are added change none before them
module _ (m x : List ℕ) where
  longer : length m ≤ length (m ++ x)
  longer = omega (arith, length-append m x)

  not_longer : x ≡ [] → m ++ x ≡ m
  not_longer e = rw e (append-nil m)

  bytes_keep : (at n : ℕ) → at + n ≤ length m → bytes (m ++ x) at n ≡ bytes m at n
  unfolding bytes
  bytes_keep at n h =
      let k : n ≤ length (drop at m) = simp length-drop (omega arith) in
      let j : at ≤ length m = omega arith in
      rw (drop-append-le, take-append-le)

  skip_keeps : (at : ℕ) → skip m at < length m → skip (m ++ x) at ≡ skip m at
  unfolding skip
  skip_keeps at h =
      let j : at ≤ length m = omega arith in
      let k : leading_noops (drop at m) < length (drop at m) = simp length-drop (omega arith) in
      rw (drop-append-le, noops_append)

-- what is added, and which refusals are then free to change
pub record Added (free : ℕ → ℕ → Type 0) (m x : List ℕ) (r r' : ℕ) (g g' : Grammar) : Type 0 where
  pub bytes_added : (x ≡ []) ⊎ ((p : ℕ) → free ends_too_early p)
  pub rows_added : (r' ≡ r) ⊎ ((p : ℕ) → free no_row_left p)
  pub rows_kept : r ≤ r'
  pub grammar_added : (g' ≡ g) ⊎ ((p : ℕ) → get_or m p 0 ≡ 'E' → free not_allowed p)
  pub grammar_kept : g.extensions ≡ true → g'.extensions ≡ true

module _ (free : ℕ → ℕ → Type 0) (m x : List ℕ) (r r' : ℕ) (g g' : Grammar) (added : Added free m x r r' g g') where
  -- ---- bytes, rows, content and integers

  byte_keeps : (at : ℕ) → Keeps free (byte m at) (byte (m ++ x) at)
  unfolding byte
  byte_keeps at = elim added.bytes_added [
    | inl e ↦ rw (not_longer m x e) same
    | inr f ↦
        then_kept (guard_law {S = Unit {0}} _ _ _ refl)
        (guard_keeps _ _ _ _ _ (f _) (λ t. let h = ltb-true at (length m) t in let l = longer m x in lt-ltb at (length (m ++ x)) (omega arith)))
        λ t. let h = ltb-true at (length m) t in rw get_or-append same
  ]

  reach_keeps : (end : ℕ) → Keeps free (reach m end) (reach (m ++ x) end)
  unfolding reach
  reach_keeps end = elim added.bytes_added [
    | inl e ↦ rw (not_longer m x e) same
    | inr f ↦
        guard_keeps _ _ _ _ _ (f _) (λ t. let h = leb-true end (length m) t in let l = longer m x in le-leb end (length (m ++ x)) (omega arith))
  ]

  row_keeps : (at row : ℕ) → Keeps free (row_left r at row) (row_left r' at row)
  unfolding row_left
  row_keeps at row = elim added.rows_added [
    | inl e ↦ rw e same
    | inr f ↦
        guard_keeps _ _ _ _ _ (f _) (λ t. let h = ltb-true row r t in let l = added.rows_kept in lt-ltb row r' (omega arith))
  ]

  content_keeps : (mark start n : ℕ) → start + n ≤ length m → Keeps free (content m mark start n) (content (m ++ x) mark start n)
  unfolding content
  content_keeps mark start n h = rw (bytes_keep m x start n h) same

  contents_keeps : (start end : ℕ) {ss : List (Slot ℕ)} → start + end ≤ length m → Inside end ss → Keeps free (contents m start ss) (contents (m ++ x) start ss)
  unfolding contents
  contents_keeps start end h nil = same
  contents_keeps start end h (slot {s = s} k i) = bind_keeps (content_keeps s.mark (start + s.offset) s.wide (omega arith)) λ _. contents_keeps start end h i

  payload_end_keeps : (mark start n : ℕ) → Keeps free (payload_end m mark start n) (payload_end (m ++ x) mark start n)
  unfolding payload_end
  payload_end_keeps mark start n = then_kept (reach_law m {S = Unit {0}} _) (reach_keeps _) λ h. then_keeps (content_keeps mark start n h) same

  number_keeps : (highest mark place start : ℕ) → Keeps free (number m highest mark place start) (number (m ++ x) highest mark place start)
  unfolding number
  number_keeps highest mark place start = then_kept (reach_law m {S = Unit {0}} _) (reach_keeps _) λ h. rw (bytes_keep m x start (width mark) h) same

  -- past `N`: the same place, or the end of the shorter message
  skipped_keeps : {A : Type 0} (k k' : ℕ → Outcome A) (at : ℕ) → Starts m k
      → Keeps free (k (skip m at)) (k' (skip m at)) → Keeps free (k (skip m at)) (k' (skip (m ++ x) at))
  skipped_keeps k k' at s h = elim added.bytes_added [
    | inl e ↦ rw (not_longer m x e) h
    | inr f ↦ go (f (length m)) (ltb (skip m at) (length m)) refl
  ]
    where
      go : free ends_too_early (length m) → (b : Bool) → ltb (skip m at) (length m) ≡ b → Keeps free (k (skip m at)) (k' (skip (m ++ x) at))
      go f true e = let l = ltb-true (skip m at) (length m) e in rw (skip_keeps m x at l) h
      go f false e = rw (s (skip m at) (ltb-false (skip m at) (length m) e)) (early f)

  ended_keeps : {A : Type 0} (o : Outcome A) → (length (m ++ x) ≡ length m → o ≡ fault ends_too_early (length m)) → Keeps free (fault ends_too_early (length m)) o
  ended_keeps o h = elim added.bytes_added [ inl e ↦ rw (h (ap length (not_longer m x e))) same | inr f ↦ early (f (length m)) ]

  -- places do not matter here
  abbrev Kept : Relation
  Kept A part from least o o' = Keeps free o o'

  extended_keeps : {A : Type 0} {o o' : Outcome A} (b : Bool) (p : ℕ) → (b ≡ true → get_or m p 0 ≡ 'E') → Keeps free o o'
      → Keeps free (when g.extensions && b then o else fault not_allowed p) (when g'.extensions && b then o' else fault not_allowed p)
  unfolding when◌then◌else◌
  extended_keeps false p s k = rw (and-false g.extensions, and-false g'.extensions) same
  extended_keeps {o = o} {o' = o'} true p s k = elim added.grammar_added [
    | inl e ↦ rw e (go g.extensions g.extensions (λ e. e) (inl refl))
    | inr f ↦ go g.extensions g'.extensions added.grammar_kept (inr (f p (s refl)))
  ]
    where
      go : (a a' : Bool) → (a ≡ true → a' ≡ true) → (a' ≡ a) ⊎ free not_allowed p
          → Keeps free (when a && true then o else fault not_allowed p) (when a' && true then o' else fault not_allowed p)
      go true true h e = k
      go true false h e = absurd (false≢true (h refl))
      go false false h e = same
      go false true h (inl e) = absurd (false≢true (sym e))
      go false true h (inr f) = early f

  rules : Rules m (m ++ x) r r' g g' Kept
  rules = record {
    longer = longer m x;
    finish = λ a _. same;
    refuse = λ n p. same;
    ended = ended_keeps;
    lower = λ _ _ k. k;
    headed = λ k. k;
    test = test_keeps;
    row_left_lem = λ at row k. then_keeps (row_keeps at row) k;
    extended = extended_keeps;
    look = λ _ _ at _ _ k. bind_kept (byte_is m at) (byte_keeps at) k;
    count = number_keeps;
    payload = λ mark start n k. bind_kept (payload_end_law m {S = Unit {0}} mark start n) (payload_end_keeps mark start n) λ next e. k next e.0;
    slots = λ start extent i k. then_kept (reach_law m {S = Unit {0}} _) (reach_keeps _) λ h. then_keeps (contents_keeps start extent h i) k;
    rest = λ _ _ _ _ h k l. bind_kept h k l;
    seq = λ _ one one' other other' _ _ at row _ k l. seq_keeps one one' other other' at row k l;
    over = λ _ _ _ k. bind_keeps k λ _. same;
    skipped = skipped_keeps;
  }

  -- a value, with any number of `N` before it
  pub value_keeps : (levels at row : ℕ) → Keeps free (spaced m (Read.value_by m r g (Read.nested m r g levels)) at row)
      (spaced (m ++ x) (Read.value_by (m ++ x) r' g' (Read.nested (m ++ x) r' g' levels)) at row)
  value_keeps = value_related m (m ++ x) r r' g g' Kept rules

-- the message's end: where bytes stood after the value, they still do
module _ (m x : List ℕ) where
  pub end_refuses : (next : ℕ) (f : Forest) → next ≤ length m
      → Refuses (λ n _. n ≡ ends_too_early) (guard (eqb (skip m next) (length m)) bytes_after (skip m next) >> done f)
      (guard (eqb (skip (m ++ x) next) (length (m ++ x))) bytes_after (skip (m ++ x) next) >> done f)
  unfolding guard ◌>>◌
  end_refuses next f h n p c = go (eqb (skip m next) (length m)) refl
    where
      go : (b : Bool) → eqb (skip m next) (length m) ≡ b → (guard b bytes_after (skip m next) >> done f) ≡ fault n p
          → (guard (eqb (skip (m ++ x) next) (length (m ++ x))) bytes_after (skip (m ++ x) next) >> done f) ≡ fault n p
      go true e q = let z : ◌≡◌ {A = ℕ} 0 1 = cc in absurd (omega arith)
      go false e q =
          let d = eqb-false (skip m next) (length m) e in
          let k : skip m next < length m = omega (arith, skip_inside m next h) in
          let j : skip m next ≡ length (m ++ x) → ⊥ = λ z. omega (arith, length-append m x) in
          rw (skip_keeps m x next k, ne_eqb _ _ j) q
