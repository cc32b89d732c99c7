-- The walk to a leaf, in words that have the rows of a schema's members: it finds the leaves of that schema, and no other row.
-- Assumes nothing.
use Prim.Native.Nat.{ℕ, zero, suc, ◌+◌, ◌≤◌, ◌<◌}
use mathlib.Core.Path.{◌≡◌, refl, sym, subst, ap, ◌∙◌}
use mathlib.Core.Bool.{Bool, true, false, not, ◌&&◌}
use mathlib.Core.List.{List}
use mathlib.Core.Logic.{◌⊎◌, inl, inr}
use native.Mathlib.Omega.{arith}
use native.Mathlib.Decide.{dec_lt}
use native.Mathlib.Numerals.{add-one}
use lib.Dec.{ltb, eqb}
use borrow.Author.Tests.{lt-ltb, le-ltb, eq-eqb, ne_eqb}
use Rattle.format.specs.Conditions.{when◌then◌else◌}
use Rattle.format.specs.Outcome.{Outcome, fault, done, ◌>>=◌, ◌>>◌, guard}
use Rattle.format.specs.Refusals.{rows_dont_fit}
use Rattle.format.specs.Marks.{Opening, bracket, brace, opens, is_leaf, 'S'}
use Rattle.format.specs.Tokens.{Token, key as kind_of_key, leaf as kind_of_leaf, schema_record, plain_count, Forest, none, node, size}
use Rattle.format.specs.Rows.{Ancestry, held_by, row_at, row_of}
use Rattle.format.specs.Addresses.{child_of, is_key, is_leaf_row, is_schema, is_fixed, is_member, seek}
use Rattle.laws.specs.Places.{At, here, under, later}
use Rattle.laws.proofs.Schemas.{Is, group_kind, keyed, Members, no_more, key, leaf, group}
use Rattle.storage.specs.Places.{Rowed, Field, own, next}
use Rattle.storage.proofs.KindNumbers.{key_no_leaf, group_no_leaf}
use Rattle.storage.proofs.Places.{rowed_own, rowed_under, rowed_later, at_size, no_at, field_at}
use Rattle.storage.proofs.Walks.{is_one, isnt_a, child_done, along_over}

-- no leaf of a forest, whose first token is at row n, stands at a row
abbrev pub NoLeaf : ℕ → Forest → ℕ → Type 0
NoLeaf n f leaf_row = (l : Token) (v : Forest) → At n f leaf_row l v → l.kind ≡ kind_of_leaf → ⊥

-- what the walk answers: the field that is the leaf or holds it, or a refusal if that row is no leaf's
pub data Sought (n : ℕ) (f : Forest) (leaf_row : ℕ) : Outcome ℕ → Type 0 where
  found : {row : ℕ} {t l : Token} → Field n f row t leaf_row l → l.kind ≡ kind_of_leaf → Sought n f leaf_row (done row)
  missing : NoLeaf n f leaf_row → Sought n f leaf_row (fault rows_dont_fit 0)

-- of an answer that equals another
sought_as : {n leaf_row : ℕ} {f : Forest} {o : Outcome ℕ} (o' : Outcome ℕ) → o' ≡ o → Sought n f leaf_row o → Sought n f leaf_row o'
sought_as {n} {leaf_row} {f} o' e s = subst (λ x. Sought n f leaf_row x) (sym e) s

-- ---- one member

-- a step of the walk at a member: it is the row sought, it has it below, or the walk goes on
unfoldable visit : ℕ → ℕ → ℕ → Bool → Outcome ℕ → Outcome ℕ → Outcome ℕ
visit leaf_row at link is_leaf inside rest =
    when eqb at leaf_row then guard is_leaf rows_dont_fit 0 >> done at else
    when ltb at leaf_row && ltb leaf_row link then (guard (not is_leaf) rows_dont_fit 0 >> (inside >>= (λ _. done at))) else
    rest

-- where a row stands to a member's
data Stands (leaf_row at link : ℕ) : Type 0 where
  before : leaf_row < at → Stands leaf_row at link
  itself : at ≡ leaf_row → Stands leaf_row at link
  between : at < leaf_row → leaf_row < link → Stands leaf_row at link
  past : link ≤ leaf_row → Stands leaf_row at link

stands : (leaf_row at link : ℕ) → Stands leaf_row at link
stands leaf_row at link = elim (dec_lt leaf_row at) [
  | yes h ↦ before h
  | no h ↦ elim (dec_lt leaf_row link) [ no k ↦ past (omega arith) | yes k ↦ elim (dec_lt at leaf_row) [ yes j ↦ between j k | no j ↦ itself (omega arith) ] ]
]

module _ (leaf_row at link : ℕ) (is_leaf : Bool) (inside rest : Outcome ℕ) where
  visit_itself : at ≡ leaf_row → visit leaf_row at link is_leaf inside rest ≡ (guard is_leaf rows_dont_fit 0 >> done at)
  unfolding visit when◌then◌else◌
  visit_itself e = rw (eq-eqb at leaf_row e)

  visit_between : at < leaf_row → leaf_row < link → visit leaf_row at link is_leaf inside rest ≡ (guard (not is_leaf) rows_dont_fit 0 >> (inside >>= (λ _. done at)))
  unfolding visit when◌then◌else◌
  visit_between p q = rw (ne_eqb at leaf_row (λ e. omega arith), lt-ltb at leaf_row p, lt-ltb leaf_row link q)

  visit_past : link ≤ leaf_row → at < link → visit leaf_row at link is_leaf inside rest ≡ rest
  unfolding visit when◌then◌else◌
  visit_past p q = rw (ne_eqb at leaf_row (λ e. omega arith), lt-ltb at leaf_row (omega arith), le-ltb leaf_row link p)

  visit_before : leaf_row < at → visit leaf_row at link is_leaf inside rest ≡ rest
  unfolding visit when◌then◌else◌
  visit_before p = rw (ne_eqb at leaf_row (λ e. omega arith), le-ltb at leaf_row (omega arith))

no_leaf : {n leaf_row : ℕ} {t : Token} {below after : Forest} → (n ≡ leaf_row → t.kind ≡ kind_of_leaf → ⊥) → NoLeaf (suc n) below leaf_row → NoLeaf (suc n + size below) after leaf_row
    → NoLeaf n (node t below after) leaf_row
no_leaf p q r l v here k = p refl k
no_leaf p q r l v (under x) k = q l v x k
no_leaf p q r l v (later x) k = r l v x k

-- nor is it one of these rows
outside : {n leaf_row : ℕ} {f : Forest} → (leaf_row < n) ⊎ (n + size f ≤ leaf_row) → NoLeaf n f leaf_row
outside (inl h) l v x k = let w = at_size x in omega arith
outside (inr h) l v x k = let w = at_size x in omega arith

-- past the first member, which is not the leaf and does not hold it
pass : {n leaf_row : ℕ} {t : Token} {below after : Forest} {o : Outcome ℕ} → (n ≡ leaf_row → t.kind ≡ kind_of_leaf → ⊥)
    → NoLeaf (suc n) below leaf_row → Sought (suc n + size below) after leaf_row o → Sought n (node t below after) leaf_row o
pass p q (found x k) = found (next x) k
pass p q (missing c) = missing (no_leaf p q c)

-- at a leaf
leaf_visit : {n leaf_row : ℕ} {t : Token} {after : Forest} {rest : Outcome ℕ} (inside : Outcome ℕ) → t.kind ≡ kind_of_leaf → Sought (suc n + size none) after leaf_row rest
    → Sought n (node t none after) leaf_row (visit leaf_row n (suc n + size none) true inside rest)
unfolding size guard ◌>>◌
leaf_visit {n} {leaf_row} {t} {after} {rest} inside k s = go (stands leaf_row n (suc n + size none))
  where
    go : Stands leaf_row n (suc n + size none) → Sought n (node t none after) leaf_row (visit leaf_row n (suc n + size none) true inside rest)
    go (before p) = sought_as _ (visit_before leaf_row n _ _ inside rest p) (pass (λ e _. omega arith) (λ l v x _. no_at x) s)
    go (itself e) = sought_as _ (visit_itself leaf_row n _ _ inside rest e) (subst (λ x. Sought n (node t none after) x (done n)) e (found (own here) k))
    go (between p q) = absurd (omega arith)
    go (past p) = sought_as _ (visit_past leaf_row n _ _ inside rest p (omega arith)) (pass (λ e _. omega arith) (λ l v x _. no_at x) s)

-- at a schema or fixed array
group_visit : {n leaf_row : ℕ} {t : Token} {below after : Forest} {inside rest : Outcome ℕ} → (t.kind ≡ kind_of_leaf → ⊥) → Sought (suc n) below leaf_row inside
    → Sought (suc n + size below) after leaf_row rest → Sought n (node t below after) leaf_row (visit leaf_row n (suc n + size below) false inside rest)
unfolding guard ◌>>◌ ◌>>=◌
group_visit {n} {leaf_row} {t} {below} {after} {inside} {rest} c i s = go (stands leaf_row n (suc n + size below))
  where
    down : {o : Outcome ℕ} → n < leaf_row → leaf_row < suc n + size below → Sought (suc n) below leaf_row o → Sought n (node t below after) leaf_row (o >>= (λ _. done n))
    down p q (found x k) = found (own (under (field_at x).1)) k
    down p q (missing d) = missing (no_leaf (λ _ k. c k) d (outside (inl q)))

    go : Stands leaf_row n (suc n + size below) → Sought n (node t below after) leaf_row (visit leaf_row n (suc n + size below) false inside rest)
    go (before p) = sought_as _ (visit_before leaf_row n _ _ inside rest p) (pass (λ _ k. c k) (outside (inl (omega arith))) s)
    go (itself e) = sought_as _ (visit_itself leaf_row n _ _ inside rest e) (missing (no_leaf (λ _ k. c k) (outside (inl (omega arith))) (outside (inl (omega arith)))))
    go (between p q) = sought_as _ (visit_between leaf_row n _ _ inside rest p q) (down p q i)
    go (past p) = sought_as _ (visit_past leaf_row n _ _ inside rest p (omega arith)) (pass (λ _ k. c k) (outside (inr (omega arith))) s)

-- ---- the walk

-- what the rows of keys, leaves, schemas and fixed arrays are
is_key_lem : {t : Token} (link : ℕ) (a : Ancestry) → Is kind_of_key (eqb 'S') t → is_key (row_of t link a) ≡ true
unfolding is_key
is_key_lem link a i = is_one plain_count link a i

leaf_is : {t : Token} (link : ℕ) (a : Ancestry) → Is kind_of_leaf is_leaf t → is_leaf_row (row_of t link a) ≡ true
unfolding is_leaf_row
leaf_is link a i = is_one plain_count link a i

leaf_member : {t : Token} (link : ℕ) (a : Ancestry) → Is kind_of_leaf is_leaf t → is_member (row_of t link a) ≡ true
unfolding is_member
leaf_member link a i = rw (leaf_is link a i)

module _ (o : Opening) (link : ℕ) (a : Ancestry) {t : Token} (i : Is (group_kind o) (eqb (opens o)) t) where
  group_not_leaf : is_leaf_row (row_of t link a) ≡ false
  unfolding is_leaf_row
  group_not_leaf = isnt_a kind_of_leaf is_leaf plain_count t link a (group_no_leaf o i.kind_is)

group_keyed : (o : Opening) (link : ℕ) (a : Ancestry) {t : Token} → Is (group_kind o) (eqb (opens o)) t → is_schema (row_of t link a) ≡ keyed o
unfolding is_schema opens
group_keyed bracket link a {t} i = isnt_a schema_record _ plain_count t link a (λ e. let k = i.kind_is in let z : ◌≡◌ {A = ℕ} 0 1 = cc in omega arith)
group_keyed brace link a i = is_one plain_count link a i

group_member : (o : Opening) (link : ℕ) (a : Ancestry) {t : Token} → Is (group_kind o) (eqb (opens o)) t → is_member (row_of t link a) ≡ true
unfolding is_member is_fixed opens
group_member bracket link a i = rw (group_not_leaf bracket link a i, group_keyed bracket link a i, is_one plain_count link a i)
group_member brace link a i = rw (group_not_leaf brace link a i, group_keyed brace link a i)

module _ (ws : List ℕ) (leaf_row : ℕ) where
  module _ (a : Ancestry) (fuel container stop at link : ℕ) (t : Token) (own_row : row_at ws at ≡ row_of t link (held_by container a)) (fits : is_member (row_of t link (held_by container a)) ≡ true) (up : at < link) (within : link ≤ stop)
      (ends : (row_at ws container).link ≡ stop) where
    -- at a member of a fixed array
    fixed_step : is_schema (row_at ws container) ≡ false
        → seek ws leaf_row (suc fuel) container at ≡ visit leaf_row at link (is_leaf_row (row_of t link (held_by container a))) (seek ws leaf_row fuel at (at + 1)) (seek ws leaf_row fuel container link)
    unfolding seek visit when◌then◌else◌ ◌>>=◌
    fixed_step k = rw (k, ends, child_done ws is_member container stop at link t a own_row fits up within, own_row)

    -- at the key of a schema's member
    schema_step : is_schema (row_at ws container) ≡ true → (n : ℕ) (u : Token) → row_at ws n ≡ row_of u at (held_by container a) → is_key (row_of u at (held_by container a)) ≡ true → n < at
        → seek ws leaf_row (suc fuel) container n ≡ visit leaf_row at link (is_leaf_row (row_of t link (held_by container a))) (seek ws leaf_row fuel at (at + 1)) (seek ws leaf_row fuel container link)
    unfolding seek visit when◌then◌else◌ ◌>>=◌
    schema_step k n u r h p = rw (k, ends, child_done ws is_key container stop n at u a r h p (omega arith), child_done ws is_member container stop at link t a own_row fits up within, own_row)

  -- no member is left
  end_step : (k : Bool) (fuel container n stop : ℕ) → is_schema (row_at ws container) ≡ k → (row_at ws container).link ≡ stop → stop ≤ n
      → seek ws leaf_row (suc fuel) container n ≡ fault rows_dont_fit 0
  unfolding seek when◌then◌else◌ ◌>>=◌
  end_step true fuel container n stop k e h = rw (k, e, along_over ws (child_of container is_key) stop n h)
  end_step false fuel container n stop k e h = rw (k, e, along_over ws (child_of container is_member) stop n h)

  -- from any member on, with fuel for all that are left
  pub seek_law : {k : Bool} {f : Forest} (a : Ancestry) (fuel container n stop : ℕ) → Members k false f → Rowed ws n (held_by container a) f → is_schema (row_at ws container) ≡ k → (row_at ws container).link ≡ stop
      → stop ≡ n + size f → size f < fuel → Sought n f leaf_row (seek ws leaf_row fuel container n)
  unfolding size row_of
  seek_law a zero container n stop m r c e q h = absurd (omega arith)
  seek_law {k} a (suc fuel) container n stop no_more r c e q h = sought_as _ (end_step k fuel container n stop c e (omega arith)) (missing (λ l v x _. no_at x))
  seek_law a (suc fuel) container n stop (leaf {t = t} i m) r c e q h =
      sought_as _ (fixed_step a fuel container stop n _ t (rowed_own r) (leaf_member _ _ i) (omega arith) (omega arith) e c)
      (rw (leaf_is _ _ i) (leaf_visit _ i.kind_is (seek_law a fuel container _ stop m (rowed_later r) c e (omega arith) (omega arith))))
  seek_law a (suc fuel) container n stop (group o {t = t} {below = below} i w u m) r c e q h =
      let at = rowed_own r in
      sought_as _ (fixed_step a fuel container stop n _ t at (group_member o _ _ i) (omega arith) (omega arith) e c)
      (rw (group_not_leaf o _ _ i) (group_visit (group_no_leaf o i.kind_is)
      (rw (add-one n) (seek_law _ fuel n (suc n) _ u (rowed_under r) (ap is_schema at ∙ group_keyed o _ _ i) (ap (λ x. x.link) at) refl (omega arith)))
      (seek_law a fuel container _ stop m (rowed_later r) c e (omega arith) (omega arith))))
  seek_law a (suc fuel) container n stop (key {t = k} j (leaf {t = t} {after = after} i m)) r c e q h =
      let here_on = rowed_later r in
      sought_as _ (schema_step a fuel container stop _ _ t (rowed_own here_on) (leaf_member _ _ i) (omega arith) (omega arith) e c n k (rowed_own r) (is_key_lem _ _ j) (omega arith))
      (pass (λ _. key_no_leaf j.kind_is) (λ l v x _. no_at x)
      (rw (leaf_is _ _ i) (leaf_visit _ i.kind_is (seek_law {f = after} a fuel container _ stop m (rowed_later here_on) c e (omega arith) (omega arith)))))
  seek_law a (suc fuel) container n stop (key {t = k} j (group o {t = t} {below = below} i w u m)) r c e q h =
      let here_on = rowed_later r in
      let at = rowed_own here_on in
      sought_as _ (schema_step a fuel container stop _ _ t at (group_member o _ _ i) (omega arith) (omega arith) e c n k (rowed_own r) (is_key_lem _ _ j) (omega arith))
      (pass (λ _. key_no_leaf j.kind_is) (λ l v x _. no_at x)
      (rw (group_not_leaf o _ _ i) (group_visit (group_no_leaf o i.kind_is)
      (rw add-one (seek_law {k = keyed o} _ fuel _ _ _ u (rowed_under here_on) (ap is_schema at ∙ group_keyed o _ _ i) (ap (λ x. x.link) at) refl (omega arith)))
      (seek_law a fuel container _ stop m (rowed_later here_on) c e (omega arith) (omega arith)))))
