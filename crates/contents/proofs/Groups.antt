-- A schema or a fixed array, walked member by member. Assumes nothing.
use Prim.Native.Nat.{ℕ, zero, suc, ◌+◌, ◌≤◌, ◌<◌, min}
use mathlib.Core.Path.{◌≡◌, refl, sym, ◌∙◌, ap, subst}
use mathlib.Core.Bool.{Bool, true, false, false≢true}
use mathlib.Core.List.{List}
use native.Mathlib.Omega.{arith}
use native.Mathlib.Nat.{le_refl}
use lib.ListN.{length, get_or}
use lib.Dec.{ltb}
use borrow.Author.Tests.{ltb-true}
use Rattle.format.specs.Conditions.{when◌then◌else◌}
use Rattle.format.specs.Outcome.{done, guard}
use Rattle.format.specs.Marks.{Opening, bracket, brace, opening_of, closes}
use Rattle.format.specs.Tokens.{is_kind, Forest, below_first}
use Rattle.format.specs.Records.{member_width, total_width}
use Rattle.format.specs.Bytes.{byte}
use Rattle.format.specs.Sequences.{Reader, row_left, until}
use Rattle.format.specs.Schemas.{group, enclosed, schema, fixed, kind_by, group_by, nested}
use Rattle.format.specs.Refusals.{no_row_left}
use Rattle.format.proofs.Forests.{width_append}
use Rattle.laws.proofs.Holds.{of_done}
use Rattle.laws.proofs.Schemas.{group_kind}
use Rattle.laws.proofs.Bounds.{Bounded, byte_law, kind_by_bounded, schema_bounded}
use Rattle.columns.specs.Least.{in_columns, Fits}
use Rattle.contents.specs.Items.{item_of, Keyed}
use Rattle.columns.specs.Walks.{Walks}
use Rattle.columns.specs.declared.Walk.{Walk}
use Rattle.columns.proofs.LeafByLeaf.{columns_most}
use Rattle.columns.proofs.Inverse.{never, done_pair, bind_done, then_done, Both}
use Rattle.contents.proofs.Members.{alike, KeyRead, keyed_plain, keyed_read, Sums, run, Rest, rest_turn, rest_there, rest_on, rest_closed, rest_next}

-- ---- where a member's kind begins

abbrev pub Afters : List ℕ → Bool → ℕ → ℕ → Type 0
Afters m b at r = (lent row next : ℕ) (kind : Reader) (f : Forest) → row ≤ lent → at ≤ length m → item_of m lent (opening_of b) kind at row ≡ done (f, next) → Keyed lent kind f next r

pub after_none : (m : List ℕ) (b : Bool) (at : ℕ) → b ≡ false → Afters m b at at
unfolding item_of
after_none m true at h = absurd (false≢true (sym h))
after_none m false at h = λ lent row next kind f l i e. keyed_plain m lent kind row next at f l e

pub after_read : (m : List ℕ) (b : Bool) (at r : ℕ) → b ≡ true → ((lent row end : ℕ) (g : Forest) → KeyRead m lent at row g end → r ≡ end) → Afters m b at r
unfolding item_of
after_read m false at r h k = absurd (false≢true h)
after_read m true at r h k = λ lent row next kind f l i e. keyed_read m lent kind row next at f l i e r (λ g end x. k lent row end g x)

-- ---- a kind

module _ (m : List ℕ) (lent levels : ℕ) where
  abbrev pub kind_of : Reader
  kind_of = kind_by m lent (nested m lent levels)

  pub kind_there : (at row : ℕ) (r : Forest × ℕ) → kind_of at row ≡ done r → at < length m
  unfolding kind_by
  kind_there at row r e = let x = bind_done (byte m at) _ e in of_done x.0 (byte_law m {S = Unit {0}} at) x.1

  pub kind_bounds : Bounded m lent 0 0 1 kind_of
  kind_bounds = kind_by_bounded m lent (nested m lent levels) (schema_bounded m lent levels)

  abbrev pub run_of : Opening → Reader
  run_of = run m lent kind_of kind_there kind_bounds

  abbrev pub RestOf : Opening → (Forest → ℕ) → (Forest → ℕ → ℕ) → ℕ → ℕ → ℕ → ℕ → ℕ → ℕ → ℕ → Type 0
  RestOf = Rest m lent kind_of kind_there kind_bounds

  -- ---- a schema or a fixed array that was read

  pub record Opened (o : Opening) (at row : ℕ) (f : Forest) (next : ℕ) : Type 0 where
    pub under : Forest
    pub end : ℕ
    pub row_lent : row < lent
    pub reads : run_of o (at + 1) (row + 1) ≡ done (under, end)
    pub ended : next ≡ end + 1
    pub is : f ≡ group (group_kind o) o at under

  row_left_lem : (at row : ℕ) → row_left lent at row ≡ done tt → row < lent
  unfolding row_left guard
  row_left_lem at row e = ltb-true _ _ (passed (ltb row lent) e)
    where
      passed : (b : Bool) → guard b no_row_left at ≡ done tt → b ≡ true
      passed true e = refl
      passed false e = absurd (never e)

  enclosed_opened : (o : Opening) (at row : ℕ) (f : Forest) (next : ℕ) → row < lent → enclosed m lent (group_kind o) o (item_of m lent o kind_of) at row ≡ done (f, next) → Opened o at row f next
  unfolding enclosed run
  enclosed_opened o at row f next l e =
      let x = bind_done _ _ e in
      let y = done_pair x.2 in
      record { under = x.0.0; end = x.0.1; row_lent = l; reads = x.1; ended = sym y.1; is = sym y.0 }

  group_opened : (o : Opening) (at row : ℕ) (f : Forest) (next : ℕ) → group_by m lent kind_of o at row ≡ done (f, next) → Opened o at row f next
  unfolding group_by fixed schema item_of
  group_opened bracket at row f next e =
      let x = then_done (row_left lent at row) _ e in
      let y = bind_done (byte m (at + 1)) _ x.1 in
      let z = then_done _ _ y.2 in
      enclosed_opened bracket at row f next (row_left_lem at row x.0) z.1
  group_opened brace at row f next e =
      let x = then_done (row_left lent at row) _ e in
      enclosed_opened brace at row f next (row_left_lem at row x.0) x.1

pub opened : (m : List ℕ) (lent levels l : ℕ) (o : Opening) (at row : ℕ) (f : Forest) (next : ℕ) → levels ≡ suc l → nested m lent levels o at row ≡ done (f, next) → Opened m lent l o at row f next
unfolding nested
opened m lent zero l o at row f next h e = absurd (omega arith)
opened m lent (suc k) l o at row f next h e = let q : k ≡ l = omega arith in subst (λ (z : ℕ). Opened m lent z o at row f next) q (group_opened m lent k o at row f next e)

pub not_nested : (m : List ℕ) (lent levels : ℕ) (o : Opening) (at row : ℕ) (f : Forest) (next : ℕ) → levels ≡ 0 → nested m lent levels o at row ≡ done (f, next) → ⊥
unfolding nested
not_nested m lent zero o at row f next h e = never e
not_nested m lent (suc k) o at row f next h e = absurd (omega arith)

-- as wide as what is below it, with the same leaves
pub group_wide : (o : Opening) (at : ℕ) (under : Forest) → total_width (group (group_kind o) o at under) ≡ total_width under
unfolding group total_width member_width is_kind when◌then◌else◌
group_wide bracket at under = omega arith
group_wide brace at under = omega arith

pub group_columns : (m : List ℕ) (stride n : ℕ) (o : Opening) (at : ℕ) (under : Forest) (place : ℕ) → in_columns m stride n (group (group_kind o) o at under) place ≡ in_columns m stride n under place
unfolding group in_columns is_kind when◌then◌else◌
group_columns m stride n bracket at under place = let k = columns_most m stride n under place in omega arith
group_columns m stride n brace at under place = let k = columns_most m stride n under place in omega arith

pub group_below : (o : Opening) (at : ℕ) (under : Forest) → below_first (group (group_kind o) o at under) ≡ under
unfolding group below_first
group_below o at under = refl

fits_less : {m : List ℕ} {stride n a b : ℕ} → a ≤ b → Fits m stride n b → Fits m stride n a
fits_less h f = let x = f.near in let y = f.last in record { near = omega arith; last = omega arith }

-- ---- the loop over its members

module _ {m : List ℕ} {lent l : ℕ} {o : Opening} {at row next : ℕ} {f : Forest} (x : Opened m lent l o at row f next) where
  pub opened_there : at < length m
  opened_there =
      let r : RestOf m lent l o total_width (in_columns m 0 0) _ (at + 1) 0 0 next _ _ =
      record { row = row + 1; lent_row = let k = x.row_lent in omega arith; members = x.under; end = x.end; reads = x.reads; ended = x.ended; within = le_refl (total_width x.under); onward = refl; lowest = refl } in
      let h = rest_there m lent (kind_of m lent l) (kind_there m lent l) (kind_bounds m lent l) r in omega arith

  pub rest_start : (adv : Forest → ℕ) (low : Forest → ℕ → ℕ) (place best : ℕ)
      → RestOf m lent l o adv low (total_width x.under) (at + 1) place best next (place + adv x.under) (min best (low x.under place))
  rest_start adv low place best =
      record { row = row + 1; lent_row = let k = x.row_lent in omega arith; members = x.under; end = x.end; reads = x.reads; ended = x.ended; within = le_refl (total_width x.under); onward = refl; lowest = refl }

  pub group_start : (stride n place best : ℕ)
      → RestOf m lent l o total_width (in_columns m stride n) (total_width f) (at + 1) place best next (place + total_width f) (min best (in_columns m stride n f place))
  group_start stride n place best =
      let g = group (group_kind o) o at x.under in
      let i : total_width x.under ≡ total_width f = sym (ap total_width x.is ∙ group_wide o at x.under) in
      let j : in_columns m stride n x.under place ≡ in_columns m stride n f place = sym (ap (λ (h : Forest). in_columns m stride n h place) x.is ∙ group_columns m stride n o at x.under place) in
      rw (i, j) at (rest_start total_width (in_columns m stride n) place best)

module _ (m : List ℕ) (lent l : ℕ) (b : Bool) {adv : Forest → ℕ} {low : Forest → ℕ → ℕ} {most i place best next place' best' : ℕ}
    (r : RestOf m lent l (opening_of b) adv low most i place best next place' best') where
  abbrev pub turn : Both (item_of m lent (opening_of b) (kind_of m lent l)) (until m (length m) (λ here. here) (closes (opening_of b)) (item_of m lent (opening_of b) (kind_of m lent l))) i r.row r.members r.end
  turn = rest_turn m lent (kind_of m lent l) (kind_there m lent l) (kind_bounds m lent l) r

  pub inside : i < length m
  inside = rest_there m lent (kind_of m lent l) (kind_there m lent l) (kind_bounds m lent l) r

  pub forward : i < turn.mid
  forward = rest_on m lent (kind_of m lent l) (kind_there m lent l) (kind_bounds m lent l) r

  -- its kind
  pub turn_keyed : (from : ℕ) → Afters m b i from → Keyed lent (kind_of m lent l) turn.former turn.mid from
  turn_keyed from a = a lent r.row turn.mid (kind_of m lent l) turn.former r.lent_row (let h = inside in omega arith) turn.first

  -- how far a walk comes that takes in one member
  pub record Turned (w : Walk) : Type 0 where
    pub ended : w.next ≡ turn.mid
    pub moved : w.place ≡ place + adv turn.former
    pub lowered : w.best ≡ min best (low turn.former place)

  module _ (sums : Sums adv low) (w : Walk) (t : Turned w) where
    pub turn_on : i < w.next
    turn_on = let e = t.ended in let h = forward in omega arith

    pub turn_closed : get_or m w.next 0 ≡ closes (opening_of b) → (next ≡ w.next + 1) × ((w.place ≡ place') × (w.best ≡ best'))
    turn_closed c =
        let e = t.ended in
        let x = rest_closed m lent (kind_of m lent l) (kind_there m lent l) (kind_bounds m lent l) r sums w.place w.best t.moved t.lowered (rw e at c) in
        (rw e x.0, x.1)

    pub turn-next : (w.next < length m → get_or m w.next 0 ≡ closes (opening_of b) → ⊥) → RestOf m lent l (opening_of b) adv low most w.next w.place w.best next place' best'
    turn-next c =
        let e = t.ended in
        rw e (rest_next m lent (kind_of m lent l) (kind_there m lent l) (kind_bounds m lent l) r sums w.place w.best t.moved t.lowered (rw e at c))

-- a member of a schema or a fixed array, all of whose leaves have one stride
pub group_turned : (m : List ℕ) (lent l : ℕ) (b : Bool) (stride n : ℕ) {most i place best next place' best' : ℕ}
    (r : RestOf m lent l (opening_of b) total_width (in_columns m stride n) most i place best next place' best') (from : ℕ) (w : Walk)
    → Fits m stride n place' → Afters m b i from → Walks m (λ k. kind_of m k l) from stride n place best w → Turned m lent l b r w
group_turned m lent l b stride n {place = place} {place' = place'} r from w fits after walks =
    let t = turn m lent l b r in
    let k = turn_keyed m lent l b r from after in
    let e = ap total_width t.is ∙ width_append t.former t.latter in
    let p = r.onward in
    let a = alike k.unkeyed in
    let q = a.wide in
    let h : place + total_width k.member ≤ place' = omega arith in
    let o = walks lent k.row t.mid k.member k.lent_row k.reads (fits_less h fits) in
    record { ended = o.ended; moved = o.onward ∙ rw q; lowered = o.lowest ∙ rw (a.columns m stride n place) }
