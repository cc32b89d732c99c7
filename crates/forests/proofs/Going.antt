-- The loop over tokens side by side: what was put, and what is left. Assumes nothing.
use Prim.Native.Nat.{ℕ, ◌+◌, ◌≤◌}
use mathlib.Core.Path.{◌≡◌, refl, sym, subst, ap, ◌∙◌}
use mathlib.Core.List.{List, [], ◌++◌, append_assoc, append-nil}
use native.Mathlib.Omega.{arith}
use Rattle.format.specs.Tokens.{Forest, none, node, size}
use Rattle.format.specs.Rows.{Row}
use Rattle.format.specs.HouseForm.{token, written, house}
use Rattle.pieces.specs.Puts.{Puts}
use Rattle.pieces.proofs.Putting.{puts_none, puts_append}
use Rattle.forests.specs.Held.{Held}
use Rattle.forests.proofs.Steps.{house-none, Step}

-- of all that the tokens f are written as, some was put, and the tokens from `row` on are left
pub record Going (m ws before now : List ℕ) (at row stop to : ℕ) (f : Forest) : Type 0 where
  pub sofar : List ℕ
  pub puts : Puts before now at to sofar
  pub left : Held ws row stop
  pub joins : sofar ++ house m left.tokens ≡ house m f

pub going_start : (m ws out : List ℕ) (at first stop : ℕ) (h : Held ws first stop) → Going m ws out out at first stop at h.tokens
going_start m ws out at first stop h = record { sofar = []; puts = puts_none out at; left = h; joins = refl }

pub going_on : {m ws before now after : List ℕ} {at row stop to to' link : ℕ} {f : Forest} {r : Row} (g : Going m ws before now at row stop to f)
    → (s : Step ws row link stop r g.left.tokens) → Puts now after to to' (token m s.first.token.kind s.first.token (written m s.first.below))
    → Going m ws before after at link stop to' f
going_on {m} g s p = record {
  sofar = g.sofar ++ token m s.first.token.kind s.first.token (written m s.first.below);
  puts = puts_append g.sofar _ g.puts p;
  left = s.rest;
  joins = append_assoc g.sofar _ (house m s.rest.tokens) ∙ ap (λ l. g.sofar ++ l) (sym (s.joins m)) ∙ g.joins;
}

pub going_end : {m ws before now : List ℕ} {at row stop to : ℕ} {f : Forest} → Going m ws before now at row stop to f → stop ≤ row → Puts before now at to (house m f)
unfolding size
going_end {m} {ws} {before} {now} {at} {row} {stop} {to} {f} g h = go g.left.tokens g.left.ends g.joins
  where
    go : (rest : Forest) → stop ≡ row + size rest → g.sofar ++ house m rest ≡ house m f → Puts before now at to (house m f)
    go none e j = subst (Puts before now at to) (sym (append-nil g.sofar) ∙ ap (λ l. g.sofar ++ l) (sym (house-none m)) ∙ j) g.puts
    go (node t below after) e j = absurd (omega arith)
