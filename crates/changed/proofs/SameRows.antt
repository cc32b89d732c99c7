-- A message that was changed inside payloads that are cut into slots has the same rows, if it is accepted too; and its other bytes
-- are the same. Assumes nothing.
use Prim.Native.Nat.{ℕ, ◌+◌, ◌≤◌, ◌<◌}
use mathlib.Core.Path.{◌≡◌, refl, ap}
use mathlib.Core.Bool.{Bool, true, false}
use mathlib.Core.List.{List}
use mathlib.Core.Logic.{◌⊎◌, inl, inr}
use native.Mathlib.Omega.{arith}
use lib.Dec.{leb, ltb}
use borrow.Author.Tests.{ltb-true, ltb-false, leb-true, leb-false}
use Rattle.format.specs.Grammars.{Grammar}
use Rattle.format.specs.Outcome.{done}
use Rattle.format.specs.Tokens.{Token, Forest}
use Rattle.format.specs.Rows.{all_words}
use Rattle.format.specs.Bytes.{bytes}
use Rattle.format.specs.Read.{read}
use Rattle.laws.specs.Places.{At, here, under, later, IsCut, InSlots, in_own, in_under, in_later, Apart}
use Rattle.laws.proofs.Holds.{of_done}
use Rattle.changed.specs.Alike.{Alike, AlikeButSlots}
use Rattle.changed.proofs.Fixed.{bytes_fixed}
use Rattle.changed.proofs.Follows.{read_follows}

-- a byte of the payload of a row that is cut into slots
pub at_slots : {n k i : ℕ} {t : Token} {f below : Forest} → At n f k t below → IsCut t.kind → t.payload ≤ i → i < t.payload + t.extent → InSlots i f
at_slots here c h l = in_own c h l
at_slots (under a) c h l = in_under (at_slots a c h l)
at_slots (later a) c h l = in_later (at_slots a c h l)

-- a byte is one of those w bytes, or not
apart_or_in : (i s w : ℕ) → Apart i 1 s w ⊎ ((s ≤ i) × (i < s + w))
apart_or_in i s w = go (ltb i s) refl (leb (s + w) i) refl
  where
    go : (b : Bool) → ltb i s ≡ b → (c : Bool) → leb (s + w) i ≡ c → Apart i 1 s w ⊎ ((s ≤ i) × (i < s + w))
    go true e c q = let h = ltb-true i s e in inl (inl (omega arith))
    go false e true q = inl (inr (leb-true (s + w) i q))
    go false e false q = let k = leb-false (s + w) i q in inr (ltb-false i s e, omega arith)

-- A change inside the payload of a row that is cut into slots is one inside such payloads.
pub alike_but_slots : {m m' : List ℕ} {f below : Forest} {n row s w : ℕ} {t : Token}
    → At n f row t below → IsCut t.kind → t.payload ≤ s → s + w ≤ t.payload + t.extent
    → Alike m m' s w → AlikeButSlots m m' f
alike_but_slots {s = s} {w = w} a c h l d = record {
  long = d.long;
  outside = λ i n. elim (apart_or_in i s w) [ inl x ↦ d.outside i x | inr x ↦ absurd (n (at_slots a c (omega arith) (omega arith))) ];
}

module _ (m m' : List ℕ) (rows_lent : ℕ) (grammar : Grammar) (f f' : Forest) (accepted : read m rows_lent grammar ≡ done f) (accepted' : read m' rows_lent grammar ≡ done f') where
  -- The tokens of an accepted message don't depend on the bytes in payloads that are cut into slots.
  pub slots_keep_tokens : AlikeButSlots m m' f → f' ≡ f
  slots_keep_tokens d = of_done f' (of_done f (read_follows m m' d.long rows_lent grammar) accepted d.outside) accepted'

  -- So a change of w bytes from s on, inside the payload of one packed array or table, keeps them.
  pub same_tokens : (s w row : ℕ) (t : Token) (below : Forest) → At 0 f row t below → IsCut t.kind → t.payload ≤ s → s + w ≤ t.payload + t.extent
      → Alike m m' s w → f' ≡ f
  same_tokens s w row t below a c h l d = slots_keep_tokens (alike_but_slots a c h l d)

  -- And so every word of the rows is the same.
  pub same_words : (s w row : ℕ) (t : Token) (below : Forest) → At 0 f row t below → IsCut t.kind → t.payload ≤ s → s + w ≤ t.payload + t.extent
      → Alike m m' s w → all_words f' ≡ all_words f
  same_words s w row t below a c h l d = ap all_words (same_tokens s w row t below a c h l d)

-- The bytes of a part that shares none with those that changed are the same.
pub same_bytes : (m m' : List ℕ) (s w first wide : ℕ) → Alike m m' s w → Apart first wide s w → bytes m' first wide ≡ bytes m first wide
same_bytes m m' s w first wide d a = bytes_fixed m m' d.long first wide λ i h l. d.outside i (elim a [ inl x ↦ inl (omega arith) | inr x ↦ inr (omega arith) ])
