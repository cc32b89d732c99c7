-- A message in house form has no `N`: it is its tokens as they are written, one after another and nothing between, before or after; what
-- an array or object holds is written so too; no token begins with `N`; and each is its mark, its integers and its payload alone.
-- Assumes nothing.
use Prim.Native.Nat.{ℕ, ◌+◌, ◌^◌}
use mathlib.Core.Path.{◌≡◌, refl, sym, ap, ◌∙◌}
use mathlib.Core.Bool.{Bool, true, false, not, true≢false}
use mathlib.Core.List.{List, ◌∷◌, ◌++◌}
use native.Mathlib.Omega.{arith}
use lib.ListN.{drop}
use lib.Dec.{ltb, eqb}
use Rattle.format.specs.Grammars.{Grammar}
use Rattle.format.specs.Conditions.{when◌then◌else◌, among, all}
use Rattle.format.specs.Marks.{Opening, bracket, brace, opens, width, integers, types, is_type, is_scalar, is_plain_leaf, 'E', 'F', 'H', 'N', 'S', 'T', 'U', 'Z', 'm', 'u', '#', '$', '[', left_brace}
use Rattle.format.specs.Tokens.{Kind, scalar, text, high_precision, key, array, object, packed, table, leaf, schema_record, fixed_array, dimension, extension, Token, is_kind, Forest, none, node, ◌⊕◌}
use Rattle.format.specs.Records.{at_offset, placed}
use Rattle.format.specs.Integers.{smallest}
use Rattle.format.specs.Extensions.{id_bytes}
use Rattle.format.specs.HouseForm.{small_integer, shape, table_form, whole, payload_of, token, written, house}
use Rattle.format.specs.Schemas as Schemas
use Rattle.format.specs.Containers as Containers
use Rattle.format.proofs.MarkFacts.{among_passes}
use Rattle.laws.specs.Places.{At, here, under, later}
use Rattle.laws.proofs.Holds.{of_done}
use Rattle.meaning.specs.Rewriting.{InHouseForm}
use Rattle.meaning.specs.Standing.{side_by_side, end_to_end, NoNoop}
use Rattle.meaning.proofs.Accepted.{Sort, Number, Accepted, stop, more, both, apart, a_scalar, a_text, a_number, an_extension, a_key, a_container, a_dimension, a_packed, a_leaf, a_text_leaf, a_kind, a_group, a_table}
use Rattle.meaning.proofs.Accepting.{read_finds}
use Rattle.meaning.proofs.Forms.{lists_counted}

-- tokens are written one after another, and nothing between
house_end_to_end : (m : List ℕ) (f : Forest) → house m f ≡ end_to_end m (side_by_side f)
unfolding house whole written side_by_side end_to_end
house_end_to_end m none = refl
house_end_to_end m (node t below after) = ap (λ x. token m t.kind t (written m below) ++ x) (house_end_to_end m after)

-- ---- what a token begins with

-- the smallest mark isn't `N`
small_other : (n : ℕ) → smallest n ≡ 'N' → ⊥
unfolding smallest when◌then◌else◌
small_other n = go (ltb n (256 ^ width 'U')) (ltb n (256 ^ width 'u'))
  where
    go : (b c : Bool) → (when b then 'U' else when c then 'u' else 'm') ≡ 'N' → ⊥
    go true c e = omega arith
    go false true e = omega arith
    go false false e = omega arith

-- a token's mark isn't `N`, or isn't written
data Own (t : Token) : Type 0 where
  by_mark : (t.mark ≡ 'N' → ⊥) → Own t
  by_dimension : t.kind ≡ dimension → Own t

token_begins : (h : List ℕ) (t : Token) (below : Forest) → Own t → NoNoop h t below
unfolding token small_integer table_form opens
token_begins h t below o = go t.kind refl
  where
    by : (k : Kind) → t.kind ≡ k → token h t.kind t (written h below) ≡ token h k t (written h below)
    by k e = ap (λ x. token h x t (written h below)) e

    marked : (k : Kind) → t.kind ≡ k → (k ≡ dimension → ⊥) → t.mark ≡ 'N' → ⊥
    marked k e c = elim o [ by_mark m ↦ m | by_dimension d ↦ λ _. c (sym e ∙ d) ]

    go : (k : Kind) → t.kind ≡ k → NoNoop h t below
    go scalar e = record { head = t.mark; tail = _; begins = by scalar e; other = marked scalar e (λ q. let z : ◌≡◌ {A = ℕ} 0 1 = cc in omega arith) }
    go text e = record { head = t.mark; tail = _; begins = by text e; other = marked text e (λ q. let z : ◌≡◌ {A = ℕ} 0 1 = cc in omega arith) }
    go high_precision e = record { head = t.mark; tail = _; begins = by high_precision e; other = marked high_precision e (λ q. let z : ◌≡◌ {A = ℕ} 0 1 = cc in omega arith) }
    go key e = record { head = smallest t.extent; tail = _; begins = by key e; other = small_other t.extent }
    go array e = record { head = '['; tail = _; begins = by array e; other = λ q. omega arith }
    go object e = record { head = left_brace; tail = _; begins = by object e; other = λ q. omega arith }
    go packed e = record { head = '['; tail = _; begins = by packed e; other = λ q. omega arith }
    go table e = record { head = t.mark; tail = _; begins = by table e; other = marked table e (λ q. let z : ◌≡◌ {A = ℕ} 0 1 = cc in omega arith) }
    go leaf e = record { head = t.mark; tail = _; begins = by leaf e; other = marked leaf e (λ q. let z : ◌≡◌ {A = ℕ} 0 1 = cc in omega arith) }
    go schema_record e = record { head = left_brace; tail = _; begins = by schema_record e; other = λ q. omega arith }
    go fixed_array e = record { head = '['; tail = _; begins = by fixed_array e; other = λ q. omega arith }
    go extension e = record { head = t.mark; tail = _; begins = by extension e; other = marked extension e (λ q. let z : ◌≡◌ {A = ℕ} 0 1 = cc in omega arith) }
    go dimension e = record { head = smallest t.count; tail = _; begins = by dimension e; other = small_other t.count }

-- ---- of all tokens

data Marked : Forest → Type 0 where
  no_token : Marked none
  a_token : {t : Token} {below after : Forest} → Own t → Marked below → Marked after → Marked (node t below after)

marked_append : {f g : Forest} → Marked f → Marked g → Marked (f ⊕ g)
unfolding ◌⊕◌
marked_append no_token q = q
marked_append (a_token o b a) q = a_token o b (marked_append a q)

-- at their offsets too
marked_placed : {f : Forest} (at : ℕ) → Marked f → Marked (placed at f)
unfolding placed at_offset when◌then◌else◌
marked_placed at no_token = no_token
marked_placed at (a_token {t = t} {below = b} {after = c} o u r) = go (is_kind key t.kind) (marked_placed at u) (marked_placed at r) (marked_placed (at + t.extent) r)
  where
    moved : Own t → Own (at_offset at t)
    moved (by_mark m) = by_mark m
    moved (by_dimension d) = by_dimension d

    go : (x : Bool) → Marked (placed at b) → Marked (placed at c) → Marked (placed (at + t.extent) c)
        → Marked (when x then node t b (placed at c) else node (at_offset at t) (placed at b) (placed (at + t.extent) c))
    go true p q v = a_token o u q
    go false p q v = a_token (moved o) p v

-- none of these marks is `N`
other_among : (l : List ℕ) (mark : ℕ) → all (λ k. not (eqb k 'N')) l ≡ true → among l mark ≡ true → mark ≡ 'N' → ⊥
other_among l mark a h e =
    let q = among_passes (λ k. not (eqb k 'N')) l mark a h in
    true≢false (sym (rw e at q))

scalar_other : (mark : ℕ) → is_scalar mark ≡ true → mark ≡ 'N' → ⊥
unfolding is_scalar types integers all
scalar_other mark h = other_among ('Z' ∷ 'T' ∷ 'F' ∷ types) mark refl h

type_other : (mark : ℕ) → is_type mark ≡ true → mark ≡ 'N' → ⊥
unfolding is_type types integers all
type_other mark h = other_among types mark refl h

leaf_other : (mark : ℕ) → is_plain_leaf mark ≡ true → mark ≡ 'N' → ⊥
unfolding is_plain_leaf types integers all
leaf_other mark h = other_among ('T' ∷ 'Z' ∷ types) mark refl h

opens_other : (o : Opening) → opens o ≡ 'N' → ⊥
unfolding opens
opens_other bracket e = omega arith
opens_other brace e = omega arith

text_other : 'S' ≡ 'N' → ⊥
text_other e = omega arith

extension_other : 'E' ≡ 'N' → ⊥
extension_other e = omega arith

number_other : 'H' ≡ 'N' → ⊥
number_other e = omega arith

accepted_marked : {m : List ℕ} {grammar : Grammar} {n : Number} {s : Sort} {f : Forest} → Accepted m grammar n s f → Marked f
unfolding Schemas.leaf Schemas.group Containers.container Containers.stored
accepted_marked stop = no_token
accepted_marked (more w p q) = marked_append (accepted_marked p) (accepted_marked q)
accepted_marked (both p q) = marked_append (accepted_marked p) (accepted_marked q)
accepted_marked (apart p) = accepted_marked p
accepted_marked (a_scalar levels mark at start t c) = a_token (by_mark (scalar_other mark t)) no_token no_token
accepted_marked (a_text levels at start n h c) = a_token (by_mark text_other) no_token no_token
accepted_marked (a_number levels at start n h c) = a_token (by_mark number_other) no_token no_token
accepted_marked (an_extension levels id at start n g i h t c) = a_token (by_mark extension_other) no_token no_token
accepted_marked (a_key at start n h c) = a_token (by_mark text_other) no_token no_token
accepted_marked (a_container levels o at start end p) = a_token (by_mark (opens_other o)) (accepted_marked p) no_token
accepted_marked (a_dimension mark at start n h) = a_token (by_dimension refl) no_token no_token
accepted_marked (a_packed levels mark at start row n t c p fill) = a_token (by_mark (type_other mark t)) (accepted_marked p) no_token
accepted_marked (a_leaf levels mark at t) = a_token (by_mark (leaf_other mark t)) no_token no_token
accepted_marked (a_text_leaf levels at n h) = a_token (by_mark text_other) no_token no_token
accepted_marked (a_kind o p) = accepted_marked p
accepted_marked (a_group levels o at w p q) = a_token (by_mark (opens_other o)) (marked_append (accepted_marked p) (accepted_marked q)) no_token
accepted_marked (a_table levels o at start row n p g w c q fill) = a_token (by_mark (opens_other o)) (marked_append (marked_placed 0 (accepted_marked p)) (accepted_marked q)) no_token

own_at : {f below : Forest} {n k : ℕ} {t : Token} → Marked f → At n f k t below → Own t
own_at no_token a = elim a [ ]
own_at (a_token o u r) here = o
own_at (a_token o u r) (under a) = own_at u a
own_at (a_token o u r) (later a) = own_at r a

-- ---- a message in house form

module _ (h : List ℕ) (rows_lent : ℕ) (grammar : Grammar) (s : InHouseForm h rows_lent grammar) where
  -- Nothing stands before its value, or after it.
  pub message_end_to_end : h ≡ end_to_end h (side_by_side s.tokens)
  message_end_to_end = sym s.own ∙ house_end_to_end h s.tokens

  module _ {k : ℕ} {t : Token} {below : Forest} (a : At 0 s.tokens k t below) where
    -- Nothing stands between what an array or object holds.
    pub lists_end_to_end : (o : Opening) → t.kind ≡ Containers.container_kind o
        → (rest : List ℕ) × (drop t.first h ≡ (opens o ∷ '#' ∷ small_integer t.count ++ end_to_end h (side_by_side below)) ++ rest)
    lists_end_to_end o e =
        let c = lists_counted h rows_lent grammar s a o e in
        (c.0, c.1 ∙ ap (λ x. (opens o ∷ '#' ∷ small_integer t.count ++ x) ++ c.0) (house_end_to_end h below))

    -- No token begins with `N`.
    pub no_noop : NoNoop h t below
    no_noop = token_begins h t below (own_at (accepted_marked (of_done s.tokens (read_finds h rows_lent grammar) s.accepted).1) a)

    -- And its bytes are these alone: no `N` stands behind them either.
    exactly : (kind : Kind) → t.kind ≡ kind → token h t.kind t (written h below) ≡ token h kind t (written h below)
    exactly kind e = ap (λ x. token h x t (written h below)) e

    pub scalar_exact : t.kind ≡ scalar → token h t.kind t (written h below) ≡ t.mark ∷ payload_of h t
    unfolding token
    scalar_exact e = exactly scalar e

    pub text_exact : t.kind ≡ text → token h t.kind t (written h below) ≡ t.mark ∷ small_integer t.extent ++ payload_of h t
    unfolding token
    text_exact e = exactly text e

    pub number_exact : t.kind ≡ high_precision → token h t.kind t (written h below) ≡ t.mark ∷ small_integer t.extent ++ payload_of h t
    unfolding token
    number_exact e = exactly high_precision e

    pub key_exact : t.kind ≡ key → token h t.kind t (written h below) ≡ small_integer t.extent ++ payload_of h t
    unfolding token
    key_exact e = exactly key e

    pub extension_exact : t.kind ≡ extension → token h t.kind t (written h below) ≡ t.mark ∷ id_bytes h t.first ++ small_integer t.extent ++ payload_of h t
    unfolding token
    extension_exact e = exactly extension e

    pub list_exact : (o : Opening) → t.kind ≡ Containers.container_kind o
        → token h t.kind t (written h below) ≡ opens o ∷ '#' ∷ small_integer t.count ++ end_to_end h (side_by_side below)
    unfolding token opens house Containers.container_kind
    list_exact bracket e = exactly array e ∙ ap (λ x. opens bracket ∷ '#' ∷ small_integer t.count ++ x) (house_end_to_end h below)
    list_exact brace e = exactly object e ∙ ap (λ x. opens brace ∷ '#' ∷ small_integer t.count ++ x) (house_end_to_end h below)

    pub packed_exact : t.kind ≡ packed
        → token h t.kind t (written h below) ≡ opens bracket ∷ '$' ∷ t.mark ∷ '#' ∷ shape t.order t.count (house h below) ++ payload_of h t
    unfolding token house
    packed_exact e = exactly packed e

    pub table_exact : t.kind ≡ table
        → token h t.kind t (written h below) ≡ table_form t.mark (written h below).first (shape t.order t.count (written h below).rest) (payload_of h t)
    unfolding token
    table_exact e = exactly table e
