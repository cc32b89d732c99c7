-- Tokens in message order: their first bytes rise, and their payloads lie where they should. Assumes nothing.
use Prim.Native.Nat.{ℕ, suc, ◌+◌, ◌≤◌}
use mathlib.Core.Path.{◌≡◌, refl, sym, ◌∙◌}
use mathlib.Core.Bool.{Bool, true, false, ◌||◌, false≢true}
use mathlib.Core.Logic.{inl, inr}
use native.Mathlib.Omega.{arith}
use Rattle.format.specs.Conditions.{when◌then◌else◌}
use Rattle.format.specs.Marks.{Opening, bracket, brace}
use Rattle.format.specs.Tokens.{Token, Kind, key as kind_of_key, packed, table, leaf as kind_of_leaf, schema_record, fixed_array, is_kind, Forest, none, node, size, ◌⊕◌}
use Rattle.format.specs.Records.{at_offset, placed}
use Rattle.laws.specs.Places.{IsCut}
use Rattle.laws.proofs.Schemas.{group_kind, Members, no_more, key, leaf, group}

-- the kinds whose payload is cut into slots, and those whose payload is an offset in a record
unfoldable pub is_cut : Kind → Bool
is_cut kind = is_kind packed kind || is_kind table kind

unfoldable pub is_offset : Kind → Bool
is_offset kind = is_kind kind_of_leaf kind || (is_kind schema_record kind || is_kind fixed_array kind)

pub cut_kind : (kind : Kind) → IsCut kind → (is_cut kind ≡ true) × (is_offset kind ≡ false)
unfolding is_cut is_offset is_kind
cut_kind kind (inl e) = rw e (refl, refl)
cut_kind kind (inr e) = rw e (refl, refl)

-- a token's payload, from its first byte on and up to `end`; if it is cut into slots, after the tokens below it, which end at `mid`
pub record Room (t : Token) (mid end : ℕ) : Type 0 where
  pub on : mid ≤ end
  pub inside : is_offset t.kind ≡ false → (t.first ≤ t.payload) × (t.payload + t.extent ≤ end)
  pub cut : is_cut t.kind ≡ true → mid ≤ t.payload

-- the payload of a token that isn't cut, and that of a schema's
pub whole : {t : Token} {mid end : ℕ} → is_cut t.kind ≡ false → mid ≤ end → t.first ≤ t.payload → t.payload + t.extent ≤ end → Room t mid end
whole c h k l = record { on = h; inside = λ _. (k, l); cut = λ e. absurd (false≢true (sym c ∙ e)) }

pub offset : {t : Token} {mid end : ℕ} → is_cut t.kind ≡ false → is_offset t.kind ≡ true → mid ≤ end → Room t mid end
offset c d h = record { on = h; inside = λ e. absurd (false≢true (sym e ∙ d)); cut = λ e. absurd (false≢true (sym c ∙ e)) }

-- the first bytes of a forest's tokens rise, from `low` on and below `high`, each token with room for its payload
pub data InOrder : ℕ → ℕ → Forest → Type 0 where
  stop : {low high : ℕ} → low ≤ high → InOrder low high none
  step : {low mid end high : ℕ} {t : Token} {below after : Forest}
      → low ≤ t.first → InOrder (suc t.first) mid below → Room t mid end → InOrder end high after → InOrder low high (node t below after)

-- the constructors as functions: what is expected decides the numbers before `omega` is asked
pub nothing : {low high : ℕ} → low ≤ high → InOrder low high none
nothing h = stop h

pub token : {low high : ℕ} {t : Token} {below after : Forest} (mid end : ℕ)
    → low ≤ t.first → InOrder (suc t.first) mid below → Room t mid end → InOrder end high after → InOrder low high (node t below after)
token mid end h u r a = step h u r a

-- as many tokens at most as bytes
pub order_size : {low high : ℕ} {f : Forest} → InOrder low high f → low + size f ≤ high
unfolding size
order_size (stop h) = omega arith
order_size (step h u r a) = let x = order_size u in let y = order_size a in omega arith

pub order_widen : {low high : ℕ} {f : Forest} (low' high' : ℕ) → low' ≤ low → high ≤ high' → InOrder low high f → InOrder low' high' f
order_widen low' high' p q (stop h) = nothing (omega arith)
order_widen low' high' p q (step {mid = mid} {end = end} h u r a) = token mid end (omega arith) u r (order_widen end high' (omega arith) q a)

pub order_append : {low mid high : ℕ} {f g : Forest} → InOrder low mid f → InOrder mid high g → InOrder low high (f ⊕ g)
unfolding ◌⊕◌
order_append {low} {mid} {high} (stop h) r = order_widen low high h (omega arith) r
order_append (step h u r a) b = step h u r (order_append a b)

-- ---- a schema's tokens when they are given their offsets

-- the kinds of a schema's tokens beside keys
pub record OfSchema (kind : Kind) : Type 0 where
  pub not_key : is_kind kind_of_key kind ≡ false
  pub uncut : is_cut kind ≡ false
  pub in_record : is_offset kind ≡ true

pub leaf_kind : OfSchema kind_of_leaf
unfolding is_kind is_cut is_offset
leaf_kind = record { not_key = refl; uncut = refl; in_record = refl }

pub group_kind_lem : (o : Opening) → OfSchema (group_kind o)
unfolding is_kind is_cut is_offset
group_kind_lem bracket = record { not_key = refl; uncut = refl; in_record = refl }
group_kind_lem brace = record { not_key = refl; uncut = refl; in_record = refl }

pub key_kind : is_kind kind_of_key kind_of_key ≡ true
unfolding is_kind
key_kind = refl

pub order_placed : {k due : Bool} {low high : ℕ} {f : Forest} (at : ℕ) → Members k due f → InOrder low high f → InOrder low high (placed at f)
unfolding placed at_offset when◌then◌else◌
order_placed at no_more (stop h) = stop h
order_placed at (key {t = t} i n) (step h u r a) =
    let e : is_kind kind_of_key t.kind ≡ true = rw i.kind_is key_kind in
    rw e (step h u r (order_placed at n a))
order_placed at (leaf {t = t} i n) (step h u r a) =
    let s : OfSchema t.kind = rw i.kind_is leaf_kind in
    rw s.not_key (step h u (offset s.uncut s.in_record r.on) (order_placed _ n a))
order_placed at (group o {t = t} i _ k n) (step h u r a) =
    let s : OfSchema t.kind = rw i.kind_is (group_kind_lem o) in
    rw s.not_key (step h (order_placed at k u) (offset s.uncut s.in_record r.on) (order_placed _ n a))

pub size-placed : (at : ℕ) (f : Forest) → size (placed at f) ≡ size f
unfolding placed size when◌then◌else◌
size-placed at none = refl
size-placed at (node t below after) = go (is_kind kind_of_key t.kind) (size-placed at below) (size-placed at after) (size-placed (at + t.extent) after)
  where
    go : (b : Bool) → size (placed at below) ≡ size below → size (placed at after) ≡ size after → size (placed (at + t.extent) after) ≡ size after
        → size (when b then node t below (placed at after) else node (at_offset at t) (placed at below) (placed (at + t.extent) after)) ≡ suc (size below + size after)
    go true u a b = omega arith
    go false u a b = omega arith
