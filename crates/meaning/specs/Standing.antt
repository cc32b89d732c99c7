-- Tokens that stand in a message as the house form writes them.
use Rattle.std.specs.Prelude.{ℕ, ◌≡◌, List, [], ◌∷◌, ◌++◌, drop}
use Rattle.format.specs.Marks.{'N'}
use Rattle.format.specs.Tokens.{Token, Forest, none, node}
use Rattle.format.specs.HouseForm.{token, written}

-- from the token's first byte on, the message has the token, with those below it, as it is written
pub record Stands (h : List ℕ) (t : Token) (below : Forest) : Type 0 where
  pub rest : List ℕ
  pub stands : drop t.first h ≡ token h t.kind t (written h below) ++ rest

-- and so has it every token of a forest
pub data AllStand (h : List ℕ) : Forest → Type 0 where
  no_token : AllStand h none
  next_token : {t : Token} {below after : Forest} → Stands h t below → AllStand h below → AllStand h after → AllStand h (node t below after)

-- ---- nothing between tokens

-- tokens side by side, each with those below it
unfoldable pub side_by_side : Forest → List (Token × Forest)
side_by_side none = []
side_by_side (node t below after) = (t, below) ∷ side_by_side after

-- each as it is written, one after another and nothing between
unfoldable pub end_to_end : List ℕ → List (Token × Forest) → List ℕ
end_to_end h [] = []
end_to_end h ((t, below) ∷ l) = token h t.kind t (written h below) ++ end_to_end h l

-- as it is written, a token begins with a byte that isn't `N`
pub record NoNoop (h : List ℕ) (t : Token) (below : Forest) : Type 0 where
  pub head : ℕ
  pub tail : List ℕ
  pub begins : token h t.kind t (written h below) ≡ head ∷ tail
  pub other : head ≡ 'N' → ⊥
