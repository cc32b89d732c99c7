-- What a message in house form looks like: each of its tokens stands in it as it is written. So arrays and objects are counted and
-- untyped, and integers have the smallest mark. Assumes nothing.
use Prim.Native.Nat.{ℕ, ◌≤◌}
use mathlib.Core.Path.{◌≡◌, ap, subst, ◌∙◌}
use mathlib.Core.List.{List, [], ◌∷◌, ◌++◌}
use lib.ListN.{length, drop}
use lib.Dec.{eqb}
use Rattle.format.specs.Grammars.{Grammar}
use Rattle.format.specs.Limits.{limit}
use Rattle.format.specs.Conditions.{when◌then◌else◌}
use Rattle.format.specs.Marks.{Opening, bracket, brace, opens, closes, 'S', '#', '$'}
use Rattle.format.specs.Tokens.{Kind, text, high_precision, key, packed, table, leaf, dimension, Token, Forest, extension}
use Rattle.format.specs.Extensions.{id_bytes}
use Rattle.format.specs.HouseForm.{small_integer, shape, table_form, payload_of, token, written, house}
use Rattle.format.specs.Containers.{container_kind}
use Rattle.laws.specs.Places.{At, here, under, later}
use Rattle.laws.proofs.Holds.{of_done}
use Rattle.laws.proofs.Schemas.{group_kind}
use Rattle.meaning.specs.Rewriting.{InHouseForm}
use Rattle.meaning.specs.Standing.{Stands, AllStand, no_token, next_token}
use Rattle.meaning.proofs.Accepting.{read_finds}
use Rattle.meaning.proofs.RoundTrip.{house_stands}

-- the token at a row is one of them
all_at : {h : List ℕ} {f below : Forest} {n k : ℕ} {t : Token} → AllStand h f → At n f k t below → Stands h t below
all_at no_token a = elim a [ ]
all_at (next_token s u r) here = s
all_at (next_token s u r) (under a) = all_at u a
all_at (next_token s u r) (later a) = all_at r a

module _ (h : List ℕ) (rows_lent : ℕ) (grammar : Grammar) (s : InHouseForm h rows_lent grammar) where
  all_stand : AllStand h s.tokens
  all_stand =
      let fits : length h ≤ limit = (of_done s.tokens (read_finds h rows_lent grammar) s.accepted).0 in
      let own = s.own in
      subst (λ x. AllStand x s.tokens) own (house_stands h rows_lent grammar s.tokens s.accepted (rw own fits) s.tokens (rw own s.accepted))

  module _ {k : ℕ} {t : Token} {below : Forest} (a : At 0 s.tokens k t below) where
    -- Every token stands in the message as it is written, from its first byte on.
    pub token_stands : Stands h t below
    token_stands = all_at all_stand a

    -- these bytes stand from its first byte on
    abbrev StandsAs : List ℕ → Type 0
    StandsAs bytes = (rest : List ℕ) × (drop t.first h ≡ bytes ++ rest)

    stands_as : (kind : Kind) → t.kind ≡ kind → StandsAs (token h kind t (written h below))
    stands_as kind e = let p = token_stands in (p.rest, p.stands ∙ ap (λ x. token h x t (written h below) ++ p.rest) e)

    -- An array or object is counted and untyped, and what it holds follows.
    pub lists_counted : (o : Opening) → t.kind ≡ container_kind o → StandsAs (opens o ∷ '#' ∷ small_integer t.count ++ house h below)
    unfolding token container_kind opens house
    lists_counted bracket e = stands_as _ e
    lists_counted brace e = stands_as _ e

    -- A text or number has its mark, its length in the smallest of `U u m`, and its bytes.
    pub texts_small : t.kind ≡ text → StandsAs (t.mark ∷ small_integer t.extent ++ payload_of h t)
    unfolding token
    texts_small e = stands_as text e

    pub numbers_small : t.kind ≡ high_precision → StandsAs (t.mark ∷ small_integer t.extent ++ payload_of h t)
    unfolding token
    numbers_small e = stands_as high_precision e

    -- A key has its length likewise.
    pub keys_small : t.kind ≡ key → StandsAs (small_integer t.extent ++ payload_of h t)
    unfolding token
    keys_small e = stands_as key e

    -- An extension has its mark, its id as it stands, its length likewise, and its bytes.
    pub extensions_small : t.kind ≡ extension → StandsAs (t.mark ∷ id_bytes h t.first ++ small_integer t.extent ++ payload_of h t)
    unfolding token
    extensions_small e = stands_as extension e

    -- A leaf of a schema has its mark, and the width of a text likewise.
    pub leaves_small : t.kind ≡ leaf → StandsAs (t.mark ∷ (when eqb t.mark 'S' then small_integer t.extent else []))
    unfolding token
    leaves_small e = stands_as leaf e

    -- A schema or fixed array has its members between its marks, without a gap.
    pub groups_form : (o : Opening) → t.kind ≡ group_kind o → StandsAs (opens o ∷ house h below ++ closes o ∷ [])
    unfolding token opens closes house
    groups_form bracket e = stands_as _ e
    groups_form brace e = stands_as _ e

    -- A dimension is marked.
    pub dimensions_small : t.kind ≡ dimension → StandsAs (small_integer t.count)
    unfolding token
    dimensions_small e = stands_as dimension e

    -- A packed array has its count or its dimensions, which are marked and in brackets, and its payload.
    pub packed_form : t.kind ≡ packed → StandsAs (opens bracket ∷ '$' ∷ t.mark ∷ '#' ∷ shape t.order t.count (house h below) ++ payload_of h t)
    unfolding token house
    packed_form e = stands_as packed e

    -- So has a table, after its schema.
    pub table_form_lem : t.kind ≡ table → StandsAs (table_form t.mark (written h below).first (shape t.order t.count (written h below).rest) (payload_of h t))
    unfolding token
    table_form_lem e = stands_as table e
