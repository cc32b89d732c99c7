-- The walk over the members of a schema: an equation for each way past a member, and the walk so far. Assumes nothing.
use Prim.Native.Nat.{ℕ, zero, suc, ◌+◌, ◌≤◌, ◌<◌}
use mathlib.Core.Path.{◌≡◌, refl, sym, ap, subst, ◌∙◌}
use mathlib.Core.Bool.{Bool, true, false, not, beq, false≢true}
use mathlib.Core.List.{List}
use native.Mathlib.Omega.{arith}
use lib.ListN.{length}
use lib.Dec.{eqb}
use borrow.Author.Tests.{eq-eqb, eqb-true, ne_eqb, lt-ltb, le-ltb}
use Rattle.format.specs.Conditions.{when◌then◌else◌}
use Rattle.format.specs.Outcome.{Outcome, fault, done, guard, ◌>>=◌, ◌>>◌}
use Rattle.format.specs.Rows.{Row, row_at, rows_in}
use Rattle.format.specs.Addresses.{child_of, along, seek, is_schema, is_key, is_member, is_leaf_row}
use Rattle.std.specs.Prelude.{Option, Some, None, unwrap_or, Result, Ok, Err, IfSome}
use Rattle.std.specs.Option.{option_or}
use Rattle.format.specs.Answers.{refusal_number}
use Rattle.format.specs.declared.refusals.Refusal.{Refusal}
use Rattle.format.specs.declared.refusals.Refusal.TheVariants.{RowsDontFit}
use Rattle.ways.specs.Members.{member_from, passing, Goes, Passes, Steps}
use Rattle.ways.specs.declared.members.Step.{Step}
use Rattle.ways.specs.declared.members.Step.TheVariants.{Leaf, Inside, Next}
use Rattle.ways.proofs.Along.{followed}

-- ---- at a member

module _ (ws : List ℕ) (leaf_row container : ℕ) (c : Row) (here : ℕ) where
  pub pass_refused : (r : Refusal) → along ws (child_of container is_member) c.link here ≡ fault (refusal_number r) 0 → Passes ws leaf_row container c here (Err r)
  unfolding passing ◌>>=◌
  pass_refused r e inside after = rw e refl

  module _ (next : ℕ) (e : along ws (child_of container is_member) c.link here ≡ done next) where
    goes : Goes ws c here next
    goes = let f = followed ws (child_of container is_member) c.link here next e in record { inside = f.before; link = f.link; up = f.up; stops = f.inside }

    -- the leaf stands before it, or after it
    pub pass_before : leaf_row < here → Passes ws leaf_row container c here (Ok (Next next))
    unfolding passing when◌then◌else◌ ◌>>=◌
    pass_before h =
        ((λ inside after. rw (e, ne_eqb here leaf_row (λ q. omega arith), le-ltb here leaf_row (omega arith)) refl), goes)

    pub pass_after : next ≤ leaf_row → Passes ws leaf_row container c here (Ok (Next next))
    unfolding passing when◌then◌else◌ ◌>>=◌
    pass_after h =
        let up = goes.up in
        ((λ inside after. rw (e, ne_eqb here leaf_row (λ q. omega arith), lt-ltb here leaf_row (omega arith), le-ltb leaf_row next h) refl), goes)

    -- it is the leaf's row
    pub pass_leaf : leaf_row ≡ here → is_leaf_row (row_at ws here) ≡ true → Passes ws leaf_row container c here (Ok (Leaf here))
    unfolding passing when◌then◌else◌ guard ◌>>=◌ ◌>>◌
    pass_leaf h l = let g = goes.inside in ((λ inside after. rw (e, eq-eqb here leaf_row (sym h), l) refl), sym h, omega arith)

    pub pass_no_leaf : leaf_row ≡ here → is_leaf_row (row_at ws here) ≡ false → Passes ws leaf_row container c here (Err RowsDontFit)
    unfolding passing when◌then◌else◌ guard ◌>>=◌ ◌>>◌
    pass_no_leaf h l inside after = rw (e, eq-eqb here leaf_row (sym h), l) refl

    -- the leaf's row stands inside it
    module _ (apart : leaf_row ≡ here → ⊥) (low : here ≤ leaf_row) (high : leaf_row < next) where
      pub pass_inside : is_leaf_row (row_at ws here) ≡ false → Passes ws leaf_row container c here (Ok (Inside here))
      unfolding passing when◌then◌else◌ guard ◌>>=◌ ◌>>◌
      pass_inside l =
          let less : here < leaf_row = omega arith in
          let g = goes in
          ((λ inside after. rw (e, ne_eqb here leaf_row (λ q. apart (sym q)), lt-ltb here leaf_row less, lt-ltb leaf_row next high, l) refl), refl, subst (Goes ws c here) (sym g.link) g)

      pub pass_in_leaf : is_leaf_row (row_at ws here) ≡ true → Passes ws leaf_row container c here (Err RowsDontFit)
      unfolding passing when◌then◌else◌ guard ◌>>=◌ ◌>>◌
      pass_in_leaf l inside after =
          let less : here < leaf_row = omega arith in
          rw (e, ne_eqb here leaf_row (λ q. apart (sym q)), lt-ltb here leaf_row less, lt-ltb leaf_row next high, l) refl

    -- its row is the leaf's where it is no leaf, or is not where it is one
    pub pass_wrong : here ≤ leaf_row → leaf_row < next → not (beq (is_leaf_row (row_at ws here)) (eqb leaf_row here)) ≡ true → Passes ws leaf_row container c here (Err RowsDontFit)
    pass_wrong low high h = go (eqb leaf_row here) refl (is_leaf_row (row_at ws here)) refl h
      where
        go : (a : Bool) → eqb leaf_row here ≡ a → (l : Bool) → is_leaf_row (row_at ws here) ≡ l → not (beq l a) ≡ true → Passes ws leaf_row container c here (Err RowsDontFit)
        go true p true q h = absurd (false≢true h)
        go true p false q h = pass_no_leaf (eqb-true leaf_row here p) q
        go false p true q h = pass_in_leaf (λ e. false≢true (sym p ∙ eq-eqb leaf_row here e)) low high q
        go false p false q h = absurd (false≢true h)

pub agrees : (l a : Bool) → not (beq l a) ≡ false → l ≡ a
agrees true true h = refl
agrees true false h = h
agrees false true h = sym h
agrees false false h = refl

-- ---- at a row of a container

-- the member stands at the row or after it
member_up : (ws : List ℕ) (container : ℕ) (c : Row) (row here : ℕ) → member_from ws container c row ≡ done here → row ≤ here
unfolding member_from when◌then◌else◌
member_up ws container c row here = go (is_schema c)
  where
    go : (b : Bool) → (when b then along ws (child_of container is_key) c.link row else done row) ≡ done here → row ≤ here
    go true e = let up = (followed ws (child_of container is_key) c.link row here e).up in omega arith
    go false e = let q : row ≡ here = cc in omega arith

-- `seek`, one member at a time
seek_step : (ws : List ℕ) (leaf_row fuel container row : ℕ) → seek ws leaf_row (suc fuel) container row
    ≡ (member_from ws container (row_at ws container) row >>= λ here. passing ws leaf_row container (row_at ws container) here (λ x. seek ws leaf_row fuel x (x + 1)) (seek ws leaf_row fuel container))
unfolding seek member_from passing
seek_step ws leaf_row fuel container row = refl

module _ (ws : List ℕ) (leaf_row container row : ℕ) where
  pub advance_refused : (r : Refusal) → member_from ws container (row_at ws container) row ≡ fault (refusal_number r) 0 → Steps ws leaf_row container row (Err r)
  unfolding ◌>>=◌
  advance_refused r e fuel = seek_step ws leaf_row fuel container row ∙ rw e refl

  pub advance_at : (here : ℕ) → (row_at ws container).link ≤ rows_in ws → member_from ws container (row_at ws container) row ≡ done here
      → (r : Result Step Refusal) → Passes ws leaf_row container (row_at ws container) here r → Steps ws leaf_row container row r
  unfolding ◌>>=◌
  advance_at here l e r p = go r p
    where
      on : (fuel : ℕ) → seek ws leaf_row (suc fuel) container row
          ≡ passing ws leaf_row container (row_at ws container) here (λ x. seek ws leaf_row fuel x (x + 1)) (seek ws leaf_row fuel container)
      on fuel = seek_step ws leaf_row fuel container row ∙ rw e refl

      up : row ≤ here
      up = member_up ws container (row_at ws container) row here e

      go : (r : Result Step Refusal) → Passes ws leaf_row container (row_at ws container) here r → Steps ws leaf_row container row r
      go (Err r) p = λ fuel. on fuel ∙ p _ _
      go (Ok (Leaf x)) p = let k = p.2 in ((λ fuel. on fuel ∙ p.0 _ _), p.1, omega arith)
      go (Ok (Inside x)) p =
          let g = p.2 in
          let q = p.1 in
          ((λ fuel. on fuel ∙ p.0 _ _), omega (arith, up, q), omega (arith, g.inside, q), subst (λ k. (row_at ws k).link ≤ rows_in ws) (sym q) (omega (arith, g.stops)))
      go (Ok (Next x)) p = let g = p.1 in ((λ fuel. on fuel ∙ p.0 _ _), omega (arith, up, g.up), omega (arith, g.stops))

-- ---- the walk so far

-- the member of the schema itself, where one was gone into, else what is found
abbrev through : Option ℕ → Outcome ℕ → Outcome ℕ
through top o = o >>= λ x. done (unwrap_or top x)

through_none : (o : Outcome ℕ) → o ≡ through None o
unfolding ◌>>=◌
through_none (fault n p) = refl
through_none (done x) = refl

through_inside : (top : Option ℕ) (x : ℕ) (o : Outcome ℕ) → through top (o >>= λ _. done x) ≡ through (option_or top (Some x)) o
unfolding ◌>>=◌
through_inside top x (fault n p) = refl
through_inside None x (done y) = refl
through_inside (Some t) x (done y) = refl

-- the search from the start is the search from here
pub record Going (ws : List ℕ) (leaf_row schema from container row : ℕ) (top : Option ℕ) : Type 0 where
  pub steps : ℕ
  pub enough : rows_in ws < row + suc steps
  pub rest : seek ws leaf_row (length ws) schema from ≡ through top (seek ws leaf_row (suc steps) container row)

module _ (ws : List ℕ) (leaf_row schema from : ℕ) where
  pub going_start : schema < rows_in ws → Going ws leaf_row schema from schema from None
  unfolding rows_in
  going_start h = go (length ws) refl
    where
      go : (n : ℕ) → length ws ≡ n → Going ws leaf_row schema from schema from None
      go zero e = absurd (omega arith)
      go (suc n) e = record { steps = n; enough = omega arith; rest = ap (λ k. seek ws leaf_row k schema from) e ∙ through_none _ }

  module _ (container row : ℕ) (top : Option ℕ) (g : Going ws leaf_row schema from container row top) where
    pub going_refused : (r : Refusal) → Steps ws leaf_row container row (Err r) → seek ws leaf_row (length ws) schema from ≡ fault (refusal_number r) 0
    unfolding ◌>>=◌
    going_refused r s = g.rest ∙ ap (through top) (s g.steps)

    pub going_leaf : (x : ℕ) → Steps ws leaf_row container row (Ok (Leaf x)) → seek ws leaf_row (length ws) schema from ≡ done (unwrap_or top x)
    unfolding ◌>>=◌
    going_leaf x s = g.rest ∙ ap (through top) (s.0 g.steps)

    pub going_inside : (x : ℕ) → row < rows_in ws → Steps ws leaf_row container row (Ok (Inside x)) → Going ws leaf_row schema from x (x + 1) (option_or top (Some x))
    going_inside x k s = go g.steps g.enough g.rest
      where
        go : (n : ℕ) → rows_in ws < row + suc n → seek ws leaf_row (length ws) schema from ≡ through top (seek ws leaf_row (suc n) container row)
            → Going ws leaf_row schema from x (x + 1) (option_or top (Some x))
        go zero e r = absurd (omega arith)
        go (suc n) e r =
            let up = s.1 in
            record { steps = n; enough = omega arith; rest = r ∙ ap (through top) (s.0 (suc n)) ∙ through_inside top x _ }

    pub going_next : (x : ℕ) → row < rows_in ws → Steps ws leaf_row container row (Ok (Next x)) → Going ws leaf_row schema from container x top
    going_next x k s = go g.steps g.enough g.rest
      where
        go : (n : ℕ) → rows_in ws < row + suc n → seek ws leaf_row (length ws) schema from ≡ through top (seek ws leaf_row (suc n) container row)
            → Going ws leaf_row schema from container x top
        go zero e r = absurd (omega arith)
        go (suc n) e r = let up = s.1 in record { steps = n; enough = omega arith; rest = r ∙ ap (through top) (s.0 (suc n)) }

-- that member is a row if those that were gone into are
abbrev pub TopIn : ℕ → Option ℕ → Type 0
TopIn many top = IfSome top (λ t. t < many)

pub top_inside : (top : Option ℕ) (here many : ℕ) → TopIn many top → here < many → TopIn many (option_or top (Some here))
top_inside None here many h k = k
top_inside (Some t) here many h k = h
