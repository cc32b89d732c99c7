-- The payloads that are cut into slots lie inside the message, and those of different rows lie apart. Assumes nothing.
use Prim.Native.Nat.{ℕ, ◌+◌, ◌≤◌}
use mathlib.Core.Path.{◌≡◌, refl}
use mathlib.Core.Logic.{◌⊎◌, inl, inr}
use native.Mathlib.Omega.{arith}
use Rattle.format.specs.Tokens.{Token, Forest}
use Rattle.laws.specs.Places.{At, here, under, later, IsCut, Apart}
use Rattle.laws.proofs.Order.{cut_kind, Room, InOrder, stop, step, order_size}

-- after the tokens below it, and up to its end
room_of : {t : Token} {mid end : ℕ} → Room t mid end → IsCut t.kind → (mid ≤ t.payload) × (t.payload + t.extent ≤ end)
room_of {t} r c = let i = cut_kind t.kind c in (r.cut i.0, (r.inside i.1).1)

-- a payload lies between the tokens' bounds
pub payload_inside : {low high n k : ℕ} {t : Token} {f v : Forest} → InOrder low high f → At n f k t v → IsCut t.kind
    → (low ≤ t.payload) × (t.payload + t.extent ≤ high)
payload_inside (stop _) x c = elim x [ ]
payload_inside (step h u r a) here c = let i = room_of r c in let x = order_size u in let y = order_size a in (omega arith, omega arith)
payload_inside (step h u r a) (under x) c = let i = payload_inside u x c in let y = order_size a in let z = r.on in (omega arith, omega arith)
payload_inside (step h u r a) (later x) c = let i = payload_inside a x c in let y = order_size u in let z = r.on in (omega arith, omega arith)

-- those of two rows lie apart
pub cut_apart : {n j k low high : ℕ} {t u : Token} {f v w : Forest} → InOrder low high f → At n f j t v → At n f k u w → IsCut t.kind → IsCut u.kind
    → (j ≡ k) ⊎ Apart t.payload t.extent u.payload u.extent
cut_apart o here here c d = inl refl
cut_apart (step h u r a) here (under y) c d = let i = room_of r c in let j = payload_inside u y d in inr (inr (omega arith))
cut_apart (step h u r a) here (later y) c d = let i = room_of r c in let j = payload_inside a y d in inr (inl (omega arith))
cut_apart (step h u r a) (under x) here c d = let i = room_of r d in let j = payload_inside u x c in inr (inl (omega arith))
cut_apart (step h u r a) (later x) here c d = let i = room_of r d in let j = payload_inside a x c in inr (inr (omega arith))
cut_apart (step h u r a) (under x) (under y) c d = cut_apart u x y c d
cut_apart (step h u r a) (later x) (later y) c d = cut_apart a x y c d
cut_apart (step h u r a) (under x) (later y) c d = let z = r.on in let i = payload_inside u x c in let j = payload_inside a y d in inr (inl (omega arith))
cut_apart (step h u r a) (later x) (under y) c d = let z = r.on in let i = payload_inside a x c in let j = payload_inside u y d in inr (inr (omega arith))
