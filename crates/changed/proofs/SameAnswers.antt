-- What an address reads goes by the message's length and the bytes of its slot: where those are the same, so are the answers. Assumes
-- nothing.
use Prim.Native.Nat.{ℕ}
use mathlib.Core.Path.{◌≡◌, refl}
use mathlib.Core.Bool.{Bool, true, false}
use mathlib.Core.List.{List}
use native.Mathlib.Omega.{arith}
use lib.ListN.{length}
use lib.Dec.{eqb}
use Rattle.format.specs.Outcome.{Outcome, fault, done, ◌>>=◌, ◌>>◌, guard}
use Rattle.format.specs.Refusals.{rows_dont_fit}
use Rattle.format.specs.Marks.{'S'}
use Rattle.format.specs.Tokens.{Kind}
use Rattle.format.specs.Bytes.{bytes}
use Rattle.format.specs.Addresses.{Region, packed_slot, table_slot}
use Rattle.format.specs.Values.{scalar_at, value_in_packed, value_in_table}
use Rattle.format.specs.TextAnswers.{text_in_table, part}
use Rattle.changed.specs.Alike.{Alike}
use Rattle.changed.specs.SameAnswers.{Untouched, SameInPacked, SameInTable}
use Rattle.changed.proofs.SameRows.{same_bytes}

module _ (m m' : List ℕ) where
  -- the same bytes in what was found, if anything
  abbrev pub SameAt : Outcome Region → Type 0
  SameAt o = (r : Region) → o ≡ done r → bytes m' r.first r.wide ≡ bytes m r.first r.wide

  part_same : (o : Outcome Region) → SameAt o → part m' o ≡ part m o
  unfolding part
  part_same (fault n p) h = refl
  part_same (done r) h = h r refl

  -- one rule for slots and rows: what goes by the bytes of a region
  rule_same : {A : Type 0} (o : Outcome Region) {rule rule' : Region → Outcome A} → SameAt o
      → ((r : Region) → bytes m' r.first r.wide ≡ bytes m r.first r.wide → rule' r ≡ rule r) → (o >>= rule') ≡ (o >>= rule)
  unfolding ◌>>=◌
  rule_same (fault n p) h k = refl
  rule_same (done r) h k = k r (h r refl)

  module _ (long : length m' ≡ length m) where
    scalar_same : (kind : Kind) (due : ℕ) (r : Region) → bytes m' r.first r.wide ≡ bytes m r.first r.wide → scalar_at m' kind due r ≡ scalar_at m kind due r
    unfolding scalar_at
    scalar_same kind due r e = rw (long, e)

    packed_value_same : (ws : List ℕ) (row : ℕ) (is : List ℕ) → SameAt (packed_slot ws (length m) row is) → value_in_packed m' ws row is ≡ value_in_packed m ws row is
    unfolding value_in_packed
    packed_value_same ws row is h = rw long (rule_same _ h λ r e. scalar_same _ _ r e)

    table_value_same : (ws : List ℕ) (row leaf_row : ℕ) (is : List ℕ) → SameAt (table_slot ws (length m) row leaf_row is)
        → value_in_table m' ws row leaf_row is ≡ value_in_table m ws row leaf_row is
    unfolding value_in_table
    table_value_same ws row leaf_row is h = rw long (rule_same _ h λ r e. scalar_same _ _ r e)

    text_same : (ws : List ℕ) (row leaf_row : ℕ) (is : List ℕ) → text_in_table m' ws row leaf_row is ≡ text_in_table m ws row leaf_row is
    unfolding text_in_table
    text_same ws row leaf_row is = rw long

  -- what passes a further test was found before it
  tested_at : (o : Outcome Region) (test : Region → Bool) (n p : ℕ) → SameAt o → SameAt (o >>= (λ r. guard (test r) n p >> done r))
  unfolding ◌>>=◌ ◌>>◌ guard
  tested_at (fault n' p') test n p h r e = let z : ◌≡◌ {A = ℕ} 0 1 = cc in absurd (omega arith)
  tested_at (done s) test n p h r e = go (test s) e
    where
      go : (b : Bool) → (guard b n p >> done s) ≡ done r → bytes m' r.first r.wide ≡ bytes m r.first r.wide
      go true q = h r q
      go false q = let z : ◌≡◌ {A = ℕ} 0 1 = cc in absurd (omega arith)

  text_at : (ws : List ℕ) (row leaf_row : ℕ) (is : List ℕ) → SameAt (table_slot ws (length m) row leaf_row is) → SameAt (text_in_table m ws row leaf_row is)
  unfolding text_in_table
  text_at ws row leaf_row is h = tested_at _ (λ r. eqb r.mark 'S') rows_dont_fit 0 h

-- ---- every address whose slot the change leaves alone reads the same, in any rows

module _ (m m' : List ℕ) (s w : ℕ) (alike : Alike m m' s w) (ws : List ℕ) where
  untouched_same : (o : Outcome Region) → Untouched s w o → SameAt m m' o
  untouched_same o u r e = same_bytes m m' s w r.first r.wide alike (u r e)

  pub same_in_packed : (row : ℕ) (is : List ℕ) → Untouched s w (packed_slot ws (length m) row is) → SameInPacked m m' ws row is
  same_in_packed row is u =
      let long = alike.long in
      let h = untouched_same _ u in
      record { slot_same = rw long; bytes_same = rw long (part_same m m' _ h); value_same = packed_value_same m m' long ws row is h }

  pub same_in_table : (row leaf_row : ℕ) (is : List ℕ) → Untouched s w (table_slot ws (length m) row leaf_row is) → SameInTable m m' ws row leaf_row is
  same_in_table row leaf_row is u =
      let long = alike.long in
      let h = untouched_same _ u in
      let t = text_same m m' long ws row leaf_row is in
      record {
        slot_same = rw long;
        bytes_same = rw long (part_same m m' _ h);
        value_same = table_value_same m m' long ws row leaf_row is h;
        text_same = t;
        text_bytes_same = rw t (part_same m m' _ (text_at m m' ws row leaf_row is h));
      }
