-- Where the tokens of a forest stand: their rows, and the payloads that are cut into slots.
use Rattle.std.specs.Prelude.{ℕ, suc, ◌+◌, ◌≤◌, ◌<◌, ◌≡◌, ◌⊎◌}
use Rattle.format.specs.Tokens.{Kind, Token, packed, table, Forest, node, size}

-- the token at row k of a forest whose first is at row n, and what stands under it
pub data At : ℕ → Forest → ℕ → Token → Forest → Type 0 where
  here : {n : ℕ} {t : Token} {below after : Forest} → At n (node t below after) n t below
  under : {n k : ℕ} {t u : Token} {below after v : Forest} → At (suc n) below k u v → At n (node t below after) k u v
  later : {n k : ℕ} {t u : Token} {below after v : Forest} → At (suc n + size below) after k u v → At n (node t below after) k u v

-- the kinds whose payload is cut into slots: 7 and 8
abbrev pub IsCut : Kind → Type 0
IsCut kind = (kind ≡ packed) ⊎ (kind ≡ table)

-- byte i lies in the payload of a token of the forest that is cut into slots
pub data InSlots (i : ℕ) : Forest → Type 0 where
  in_own : {t : Token} {below after : Forest} → IsCut t.kind → t.payload ≤ i → i < t.payload + t.extent → InSlots i (node t below after)
  in_under : {t : Token} {below after : Forest} → InSlots i below → InSlots i (node t below after)
  in_later : {t : Token} {below after : Forest} → InSlots i after → InSlots i (node t below after)

-- n bytes from one place and k bytes from another share none: one part ends where the other starts, or before
abbrev pub Apart : ℕ → ℕ → ℕ → ℕ → Type 0
Apart a n b k = (a + n ≤ b) ⊎ (b + k ≤ a)
