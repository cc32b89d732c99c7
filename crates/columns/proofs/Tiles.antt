-- The slots of a payload stand in order, so the first wrong one has the least place. Assumes nothing.
use Prim.Native.Nat.{ℕ, ◌+◌, ◌≤◌, min}
use mathlib.Core.Path.{◌≡◌, refl}
use mathlib.Core.Bool.{Bool, true, false}
use mathlib.Core.List.{List, [], ◌∷◌}
use native.Mathlib.Omega.{arith}
use lib.Dec.{leb}
use borrow.Author.Tests.{le-leb}
use Rattle.format.specs.Conditions.{when◌then◌else◌}
use Rattle.format.specs.Outcome.{Outcome, fault, done, ◌>>=◌, guard}
use Rattle.format.specs.Limits.{limit}
use Rattle.format.specs.Refusals.{wrong_content}
use Rattle.format.specs.Bytes.{bytes}
use Rattle.format.specs.Content.{is_content, content, contents}
use Rattle.format.specs.Storage.{Slot}
use Rattle.laws.specs.Tiles.{Tiles, no_slot, next_slot}
use Rattle.laws.proofs.Slots.{tiles_end}
use Rattle.columns.specs.Least.{nowhere, wrong_at, least}

-- what the least place of a wrong slot says
unfoldable pub verdict : ℕ → Outcome (Unit {0})
verdict p = when leb p limit then fault wrong_content p else done tt

module _ (m : List ℕ) (start : ℕ) where
  pub wrong_from : (b mark w place : ℕ) → b ≤ nowhere → b ≤ place → b ≤ wrong_at m mark w place
  unfolding wrong_at when◌then◌else◌
  wrong_from b mark w place h k = go (is_content mark (bytes m place w))
    where
      go : (t : Bool) → b ≤ (when t then nowhere else place)
      go true = h
      go false = k

  least-from : {end : ℕ} {ss : List (Slot ℕ)} {from : ℕ} (b : ℕ) → b ≤ nowhere → b ≤ start + from → Tiles end from ss → b ≤ least m start ss
  unfolding least
  least-from b h k (no_slot e) = h
  least-from b h k (next_slot {s = s} {ss = ss} l t) =
      let x = wrong_from b s.mark s.wide (start + s.offset) h (omega arith) in
      let y = least-from b h (omega arith) t in omega arith

  pub least_most : (ss : List (Slot ℕ)) → least m start ss ≤ nowhere
  unfolding least
  least_most [] = omega arith
  least_most (s ∷ ss) = let y = least_most ss in omega arith

  pub contents-least : {end : ℕ} {ss : List (Slot ℕ)} {from : ℕ} → start + end ≤ limit → Tiles end from ss → contents m start ss ≡ verdict (least m start ss)
  unfolding contents content verdict least wrong_at when◌then◌else◌ guard ◌>>=◌
  contents-least h (no_slot e) = refl
  contents-least h (next_slot {s = s} {ss = ss} l t) = go (is_content s.mark (bytes m (start + s.offset) s.wide)) (contents-least h t) (least_most ss)
      (least-from (start + s.offset) (let e = tiles_end t in omega arith) (omega arith) t) (let e = tiles_end t in omega arith)
    where
      go : (b : Bool) → contents m start ss ≡ verdict (least m start ss) → least m start ss ≤ nowhere → start + s.offset ≤ least m start ss → start + s.offset ≤ limit
          → (guard b wrong_content (start + s.offset) >>= (λ _. contents m start ss)) ≡ verdict (min (when b then nowhere else (start + s.offset)) (least m start ss))
      go true e k j i = let q : min nowhere (least m start ss) ≡ least m start ss = omega arith in rw q e
      go false e k j i = let q : min (start + s.offset) (least m start ss) ≡ start + s.offset = omega arith in rw (q, le-leb _ _ i)
