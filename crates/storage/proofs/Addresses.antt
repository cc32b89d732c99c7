-- The half of demand 3 that is about one message. In the rows of an accepted message the address calls answer exactly the addresses in
-- range, each with the slot that cutting the payload in storage order gives. Assumes nothing.
use Prim.Native.Nat.{ℕ, ◌+◌, ◌-◌, ◌≤◌, ◌<◌}
use mathlib.Core.Path.{◌≡◌, refl, subst₂, subst₃, ap, ◌∙◌}
use mathlib.Core.List.{List, Memᴰ}
use mathlib.Core.Logic.{◌⊎◌, inl, inr}
use native.Mathlib.Omega.{arith}
use lib.ListN.{length}
use Rattle.format.specs.Grammars.{Grammar}
use Rattle.format.specs.Outcome.{Outcome, fault, done}
use Rattle.format.specs.Refusals.{not_there, rows_dont_fit}
use Rattle.format.specs.Tokens.{Token, Forest}
use Rattle.format.specs.Storage.{Slot, dimensions_of, storage}
use Rattle.format.specs.Addresses.{Region}
use Rattle.format.specs.Read.{read}
use Rattle.laws.specs.Places.{At, IsCut}
use Rattle.storage.specs.Places.{Filled}
use Rattle.storage.specs.Addresses.{Address, indexes_of, call, address_of, region_of, Names, Below, InRange, is_in_range}
use Rattle.storage.specs.Regions.{RegionsApart, InOne}
use Rattle.storage.specs.Verdicts.{Verdict, wrong_rows, wrong_indexes, answered}
use Rattle.storage.proofs.Naming.{names_at, names_same}
use Rattle.storage.proofs.Tiling.{tiles_hold}
use Rattle.storage.proofs.MessageSlots.{slots_tile, slot_in_payload, slot_in_range, one_slot, slots_apart}
use Rattle.storage.proofs.Verdicts as Verdicts

module _ (m : List ℕ) (rows_lent : ℕ) (grammar : Grammar) (f : Forest) (accepted : read m rows_lent grammar ≡ done f) (ws : List ℕ) (filled : Filled f ws) where
  -- ---- what the calls answer

  -- Every address: 12 if it names no packed row, or no table row and leaf of its schema; then 10 if its indexes are wrong in number or
  -- range; else the region of the slot whose address it is.
  pub verdict : (a : Address) → Verdict f a (call ws (length m) a)
  verdict a = Verdicts.verdict m rows_lent grammar f accepted ws filled a

  -- ---- an address that is answered

  -- the row that it names, and its slot in the storage of that row
  record Answer (a : Address) (r : Region) : Type 0 where
    row : ℕ
    token : Token
    below : Forest
    named : Names f a row token below
    in_range : Below (indexes_of a) (dimensions_of token below)
    own : Slot (List ℕ)
    member : Memᴰ own (storage row token below)
    address_is : address_of row token own ≡ a
    region_is : region_of token own ≡ r

  answer_of : {a : Address} {o : Outcome Region} (r : Region) → Verdict f a o → o ≡ done r → Answer a r
  answer_of r (wrong_rows c) e = let z : ◌≡◌ {A = ℕ} 0 1 = cc in absurd (omega arith)
  answer_of r (wrong_indexes n c) e = let z : ◌≡◌ {A = ℕ} 0 1 = cc in absurd (omega arith)
  answer_of r (answered {row = row} {t = t} {below = below} {s = s} n h i q) e =
      record { row = row; token = t; below = below; named = n; in_range = h; own = s; member = i; address_is = q; region_is = cc }

  answer : (a : Address) (r : Region) → call ws (length m) a ≡ done r → Answer a r
  answer a r e = answer_of r (verdict a) e

  -- Only addresses in range are answered.
  pub answered_in_range : (a : Address) (r : Region) → call ws (length m) a ≡ done r → InRange f a
  answered_in_range a r e = let x = answer a r e in is_in_range x.named x.in_range

  -- ---- the three answers, as equations

  -- In range: the region of the slot of the row's storage whose address it is.
  pub in_range_answered : {a : Address} {row : ℕ} {t : Token} {below : Forest} → Names f a row t below → Below (indexes_of a) (dimensions_of t below)
      → (s : Slot (List ℕ)) × Memᴰ s (storage row t below) × (address_of row t s ≡ a) × (call ws (length m) a ≡ done (region_of t s))
  in_range_answered {a} {row} {t} {below} n h = go (verdict a)
    where
      go : {o : Outcome Region} → Verdict f a o → (s : Slot (List ℕ)) × Memᴰ s (storage row t below) × (address_of row t s ≡ a) × (o ≡ done (region_of t s))
      go (wrong_rows c) = absurd (c row t below n)
      go (wrong_indexes p c) = let e = names_same n p in absurd (c (subst₂ (λ u v. Below (indexes_of a) (dimensions_of u v)) e.1 e.2 h))
      go (answered {s = s} p h i q) =
          let e = names_same p n in (
            s,
            subst₃ (λ r u v. Memᴰ s (storage r u v)) e.0 e.1 e.2 i,
            subst₂ (λ r u. address_of r u s ≡ a) e.0 e.1 q,
            ap (λ u. done (region_of u s)) e.1,
          )

  -- Every slot in storage order has an address in range, and is what the call answers for it.
  pub slot_answered : {row : ℕ} {t : Token} {below : Forest} {s : Slot (List ℕ)} → At 0 f row t below → IsCut t.kind → Memᴰ s (storage row t below)
      → InRange f (address_of row t s) × (call ws (length m) (address_of row t s) ≡ done (region_of t s))
  slot_answered {t = t} x c i =
      let n = slot_in_range m rows_lent grammar f accepted x c i in
      let y = in_range_answered n.0 n.1 in
      (is_in_range n.0 n.1, y.3 ∙ ap (λ z. done (region_of t z)) (one_slot m rows_lent grammar f accepted x c y.1 i y.2))

  -- Indexes wrong in number or range: 10.
  pub wrong_indexes_lem : {a : Address} {row : ℕ} {t : Token} {below : Forest} → Names f a row t below → (Below (indexes_of a) (dimensions_of t below) → ⊥)
      → call ws (length m) a ≡ fault not_there 0
  wrong_indexes_lem {a} n c = go (verdict a)
    where
      go : {o : Outcome Region} → Verdict f a o → o ≡ fault not_there 0
      go (wrong_rows d) = absurd (d _ _ _ n)
      go (wrong_indexes p d) = refl
      go (answered p h i q) = let e = names_same p n in absurd (c (subst₂ (λ u v. Below (indexes_of a) (dimensions_of u v)) e.1 e.2 h))

  -- No packed row, or no table row and leaf of its schema: 12.
  pub wrong_rows_lem : {a : Address} → ((row : ℕ) (t : Token) (below : Forest) → Names f a row t below → ⊥) → call ws (length m) a ≡ fault rows_dont_fit 0
  wrong_rows_lem {a} c = go (verdict a)
    where
      go : {o : Outcome Region} → Verdict f a o → o ≡ fault rows_dont_fit 0
      go (wrong_rows d) = refl
      go (wrong_indexes p d) = absurd (c _ _ _ p)
      go (answered p h i q) = absurd (c _ _ _ p)

  -- ---- bytes

  -- The bytes of an address that is answered lie inside the payload of the row that it names.
  pub region_in_payload : {a : Address} {r : Region} {row : ℕ} {t : Token} {below : Forest} → call ws (length m) a ≡ done r → Names f a row t below
      → (t.payload ≤ r.first) × (r.first + r.wide ≤ t.payload + t.extent)
  region_in_payload {a} {r} {t = t} e n =
      let x = answer a r e in
      let q = names_same x.named n in
      let p = names_at x.named in
      let i = slot_in_payload m rows_lent grammar f accepted p.0 p.1 x.member in
      subst₂ (λ u (z : Region). (u.payload ≤ z.first) × (z.first + z.wide ≤ u.payload + u.extent)) q.1 x.region_is i

  -- Two addresses that are answered are the same, or their bytes lie apart: in one row or in two.
  pub answers_apart : (a b : Address) (r q : Region) → call ws (length m) a ≡ done r → call ws (length m) b ≡ done q
      → (a ≡ b) ⊎ RegionsApart r q
  answers_apart a b r q e d =
      let x = answer a r e in
      let y = answer b q d in
      let n = names_at x.named in
      let k = names_at y.named in
      subst₂ (λ c c'. (c ≡ c') ⊎ RegionsApart r q) x.address_is y.address_is
      (subst₂ (λ z z'. (address_of x.row x.token x.own ≡ address_of y.row y.token y.own) ⊎ RegionsApart z z') x.region_is y.region_is
      (slots_apart m rows_lent grammar f accepted n.0 k.0 n.1 k.1 x.member y.member))

  -- Every byte of a payload lies in the slot of exactly one address in range.
  pub byte_in_one : {row : ℕ} {t : Token} {below : Forest} → At 0 f row t below → IsCut t.kind → (byte : ℕ) → t.payload ≤ byte → byte < t.payload + t.extent
      → InOne f (call ws (length m)) byte
  unfolding region_of
  byte_in_one {row} {t} x c byte p q =
      let h = tiles_hold (byte - t.payload) (slots_tile m rows_lent grammar f accepted x c) (omega arith) (omega arith) in
      let s = h.0 in
      let a = slot_answered x c h.1 in
      let low = h.2 in
      let high = h.3 in
      record {
        address = address_of row t s;
        in_range = a.0;
        region = region_of t s;
        answered = a.1;
        holds = (omega arith, omega arith);
        only = λ b r e i. elim (answers_apart b (address_of row t s) r (region_of t s) e a.1) [
          | inl g ↦ g
          | inr g ↦ absurd (elim g [ inl k ↦ omega arith | inr k ↦ omega arith ])
        ];
      }
