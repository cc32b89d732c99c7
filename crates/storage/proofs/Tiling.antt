-- Slots that lie end to end: each lies inside, every byte in one of them, and any two apart. Assumes nothing.
use Prim.Native.Nat.{ℕ, ◌+◌, ◌≤◌, ◌<◌}
use mathlib.Core.Path.{◌≡◌, refl, sym, ap, ◌∙◌}
use mathlib.Core.List.{List, Memᴰ}
use mathlib.Core.Logic.{◌⊎◌, inl, inr}
use native.Mathlib.Omega.{arith}
use native.Mathlib.Decide.{dec_lt}
use Rattle.format.specs.Storage.{Slot}
use Rattle.laws.specs.Places.{Apart}
use Rattle.laws.specs.Tiles.{Tiles, no_slot, next_slot}
use Rattle.laws.proofs.Slots.{tiles_end}

-- each lies inside
pub tile_inside : {A : Type 0} {end from : ℕ} {ss : List (Slot A)} {s : Slot A} → Tiles end from ss → Memᴰ s ss → (from ≤ s.offset) × (s.offset + s.wide ≤ end)
tile_inside (no_slot h) m = elim m [ ]
tile_inside (next_slot {s = x} h r) (Memᴰ.head e) =
    let y = tiles_end r in
    let p = ap (λ z. z.offset) e in
    let q = ap (λ z. z.wide) e in
    (omega arith, omega arith)
tile_inside (next_slot h r) (Memᴰ.tail m) = let x = tile_inside r m in (omega arith, omega arith)

-- a byte in between lies in one of them
pub tiles_hold : {A : Type 0} {end from : ℕ} {ss : List (Slot A)} (byte : ℕ) → Tiles end from ss → from ≤ byte → byte < end
    → (s : Slot A) × Memᴰ s ss × (s.offset ≤ byte) × (byte < s.offset + s.wide)
tiles_hold byte (no_slot h) p q = absurd (omega arith)
tiles_hold {from = from} byte (next_slot {s = s} h r) p q = elim (dec_lt byte (from + s.wide)) [
  | yes k ↦ (s, Memᴰ.head refl, omega arith, omega arith)
  | no k ↦ (let x = tiles_hold byte r (omega arith) q in (x.0, Memᴰ.tail x.1, x.2, x.3))
]

-- two of them are one, or lie apart
pub tiles_apart : {A : Type 0} {x y : Slot A} {end : ℕ} {ss : List (Slot A)} {from : ℕ} → Tiles end from ss → Memᴰ x ss → Memᴰ y ss
    → (x ≡ y) ⊎ Apart x.offset x.wide y.offset y.wide
tiles_apart t (Memᴰ.head p) (Memᴰ.head q) = inl (p ∙ sym q)
tiles_apart (next_slot {s = s} h r) (Memᴰ.head p) (Memᴰ.tail q) =
    let i = tile_inside r q in
    let a = ap (λ z. z.offset) p in
    let b = ap (λ z. z.wide) p in
    inr (inl (omega arith))
tiles_apart (next_slot {s = s} h r) (Memᴰ.tail p) (Memᴰ.head q) =
    let i = tile_inside r p in
    let a = ap (λ z. z.offset) q in
    let b = ap (λ z. z.wide) q in
    inr (inr (omega arith))
tiles_apart (next_slot h r) (Memᴰ.tail p) (Memᴰ.tail q) = tiles_apart r p q
