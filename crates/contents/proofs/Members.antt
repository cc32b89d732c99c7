-- The members of a schema or a fixed array, read one after another, whatever is summed and whatever the least of them is. Assumes nothing.
use Prim.Native.Nat.{ℕ, ◌+◌, ◌*◌, ◌≤◌, ◌<◌, min}
use mathlib.Core.Path.{◌≡◌, refl, sym, ◌∙◌, ap, subst}
use mathlib.Core.List.{List}
use native.Mathlib.Omega.{arith}
use native.Mathlib.Nat.{mul-add}
use lib.ListN.{length, get_or}
use lib.Dec.{ltb, eqb}
use borrow.Author.Tests.{eq-eqb, ne_eqb}
use Rattle.format.specs.Conditions.{when◌then◌else◌}
use Rattle.format.specs.Outcome.{done, ◌>>=◌, guard}
use Rattle.format.specs.Limits.{limit}
use Rattle.format.specs.Marks.{Opening, bracket, brace, closes, is_integer, 'S'}
use Rattle.format.specs.Tokens.{key as kind_of_key, is_kind, Forest, none, alone, uncounted, size, ◌⊕◌}
use Rattle.format.specs.Records.{member_width, total_width}
use Rattle.format.specs.Bytes.{byte, one_of}
use Rattle.format.specs.Integers.{number}
use Rattle.format.specs.Sequences.{Reader, row_left, ◌⨾◌, until}
use Rattle.format.specs.Content.{payload_end}
use Rattle.format.specs.Scalars.{key}
use Rattle.format.proofs.Forests.{append_none, width_append}
use Rattle.laws.proofs.Holds.{of_done}
use Rattle.laws.proofs.Loops.{until_step}
use Rattle.laws.proofs.Bounds.{Bounded, byte_law, one_of_law, payload_end_law, key_bounded, seq_bounded, eased}
use Rattle.columns.specs.Least.{in_columns, in_fields}
use Rattle.contents.specs.Items.{item_of, Unkeyed, bare, named, Keyed}
use Rattle.columns.proofs.LeafByLeaf.{columns_most, fields_most, columns_append, fields_append}
use Rattle.columns.proofs.Inverse.{done_pair, bind_done, then_done, Both, seq_done}

-- ---- sums and leasts over forests

-- a sum over tokens, and a least that goes by it
pub record Sums (adv : Forest → ℕ) (low : Forest → ℕ → ℕ) : Type 0 where
  pub sum : (f g : Forest) → adv (f ⊕ g) ≡ adv f + adv g
  pub lower : (f g : Forest) (place : ℕ) → low (f ⊕ g) place ≡ min (low f place) (low g (place + adv f))

pub columns_sum : (m : List ℕ) (stride n : ℕ) → Sums total_width (in_columns m stride n)
columns_sum m stride n = record { sum = width_append; lower = columns_append m stride n }

pub fields_sum : (m : List ℕ) (n : ℕ) → Sums (λ f. n * total_width f) (in_fields m n)
fields_sum m n = record { sum = λ f g. rw (width_append f g) (mul-add n (total_width f) (total_width g)); lower = fields_append m n }

-- ---- keys

module _ (m : List ℕ) (lent at row : ℕ) where
  -- a key that was read
  pub record KeyRead (f : Forest) (next : ℕ) : Type 0 where
    pub there : at < length m
    pub long : ℕ
    pub start : ℕ
    pub length_read : number m limit (get_or m at 0) at (at + 1) ≡ done (long, start)
    pub ends : next ≡ start + long
    pub inside : next ≤ length m
    pub is : f ≡ alone (uncounted kind_of_key 'S' at start long)

  byte_is : (b : ℕ) → byte m at ≡ done b → b ≡ get_or m at 0
  unfolding byte
  byte_is b e = let q = (then_done (guard (ltb at (length m)) _ _) _ e).1 in let z : get_or m at 0 ≡ b = cc in sym z

  pub key-done : (f : Forest) (next : ℕ) → key m lent at row ≡ done (f, next) → KeyRead f next
  unfolding key one_of
  key-done f next e =
      let x = bind_done (one_of m is_integer at) _ e in
      let there = (of_done x.0 (one_of_law m {S = Unit {0}} is_integer at) x.1).0 in
      let b = bind_done (byte m at) _ x.1 in
      let g = (then_done (guard (is_integer b.0) _ _) _ b.2).1 in
      let q : b.0 ≡ x.0 = cc in
      let i : x.0 ≡ get_or m at 0 = sym q ∙ byte_is b.0 b.1 in
      let y = bind_done (number m limit x.0 at (at + 1)) _ (then_done (row_left lent at row) _ x.2).1 in
      let z = bind_done (payload_end m 'S' y.0.1 y.0.0) _ y.2 in
      let p = done_pair z.2 in
      let l = of_done z.0 (payload_end_law m {S = Unit {0}} 'S' y.0.1 y.0.0) z.1 in
      let u = p.1 in
      let v = l.0 in
      let w = l.1 in
      record {
        there = there;
        long = y.0.0;
        start = y.0.1;
        length_read = ap (λ (k : ℕ). number m limit k at (at + 1)) (sym i) ∙ y.1;
        ends = sym u ∙ v;
        inside = omega arith;
        is = sym p.0;
      }

-- tokens that are as wide, and that hold the same leaves
pub record Alike (f g : Forest) : Type 0 where
  pub wide : total_width f ≡ total_width g
  pub columns : (m : List ℕ) (stride n place : ℕ) → in_columns m stride n f place ≡ in_columns m stride n g place
  pub fields : (m : List ℕ) (n place : ℕ) → in_fields m n f place ≡ in_fields m n g place

-- a key takes no bytes of a record
pub alike : {f g : Forest} → Unkeyed f g → Alike f g
unfolding total_width in_columns in_fields member_width is_kind when◌then◌else◌
alike bare = record { wide = refl; columns = λ m stride n place. refl; fields = λ m n place. refl }
alike (named {t = t} {f = g} k) = record {
  wide = rw k (omega arith);
  columns = λ m stride n place. let y = columns_most m stride n g place in let z : place + 0 ≡ place = omega arith in rw (k, z) (omega arith);
  fields = λ m n place. let y = fields_most m n g place in let z : place + n * 0 ≡ place = omega arith in rw (k, z) (omega arith);
}

-- ---- members

module _ (m : List ℕ) (lent : ℕ) (kind : Reader) where
  -- without a key
  pub keyed_plain : (row next at : ℕ) (f : Forest) → row ≤ lent → kind at row ≡ done (f, next) → Keyed lent kind f next at
  keyed_plain row next at f l e = record { row = row; lent_row = l; member = f; reads = e; unkeyed = bare }

  -- with one
  pub keyed_read : (row next at : ℕ) (f : Forest) → row ≤ lent → at ≤ length m → (key m lent ⨾ kind) at row ≡ done (f, next)
      → (r : ℕ) → ((g : Forest) (end : ℕ) → KeyRead m lent at row g end → r ≡ end) → Keyed lent kind f next r
  unfolding ◌⊕◌
  keyed_read row next at f l h e r k =
      let b = seq_done (key m lent) kind at row f next e in
      let x = key-done m lent at row b.former b.mid b.first in
      let y = of_done (b.former, b.mid) (key_bounded m lent at row (omega arith) (omega arith)) b.first in
      let i : f ≡ alone (uncounted kind_of_key 'S' at x.start x.long) ⊕ b.latter = b.is ∙ ap (λ (g : Forest). g ⊕ b.latter) x.is in
      let u : Unkeyed f b.latter = subst (λ (g : Forest). Unkeyed g b.latter) (sym i) (named refl) in
      record { row = row + size b.former; lent_row = y.lent; member = b.latter; reads = rw (k _ _ x) b.second; unkeyed = u }

  -- a member, of a schema or a fixed array
  module _ (kind_there : (a row : ℕ) (r : Forest × ℕ) → kind a row ≡ done r → a < length m) (bounded : Bounded m lent 0 0 1 kind) where
    item_there : (o : Opening) (a row next : ℕ) (f : Forest) → item_of m lent o kind a row ≡ done (f, next) → a < length m
    unfolding item_of
    item_there bracket a row next f e = kind_there a row (f, next) e
    item_there brace a row next f e = let b = seq_done (key m lent) kind a row f next e in (key-done m lent a row b.former b.mid b.first).there

    item_bounded : (o : Opening) → Bounded m lent 0 0 1 (item_of m lent o kind)
    unfolding item_of
    item_bounded bracket = bounded
    item_bounded brace = seq_bounded m lent 1 (key m lent) kind (key_bounded m lent) (eased m lent bounded)

    -- members, one or more, up to the closing mark
    unfoldable pub run : Opening → Reader
    run o = item_of m lent o kind ⨾ until m (length m) (λ here. here) (closes o) (item_of m lent o kind)

    -- what remains of them, from `at` on
    pub record Rest (o : Opening) (adv : Forest → ℕ) (low : Forest → ℕ → ℕ) (most at place best next place' best' : ℕ) : Type 0 where
      pub row : ℕ
      pub lent_row : row ≤ lent
      pub members : Forest
      pub end : ℕ
      pub reads : run o at row ≡ done (members, end)
      pub ended : next ≡ end + 1
      pub within : total_width members ≤ most
      pub onward : place + adv members ≡ place'
      pub lowest : min best (low members place) ≡ best'

    -- members that were read
    pub record Run (o : Opening) (at row : ℕ) (f : Forest) (end : ℕ) : Type 0 where
      pub lent_row : row ≤ lent
      pub reads : run o at row ≡ done (f, end)

    module _ {o : Opening} {at row end : ℕ} {f : Forest} (r : Run o at row f end) where
      -- the next of them, and the others
      pub run_turn : Both (item_of m lent o kind) (until m (length m) (λ here. here) (closes o) (item_of m lent o kind)) at row f end
      unfolding run
      run_turn = seq_done _ _ at row f end r.reads

      pub run_there : at < length m
      run_there = item_there o at row run_turn.mid run_turn.former run_turn.first

      pub run_read : (at < run_turn.mid) × (row + size run_turn.former ≤ lent)
      run_read =
          let h = run_there in
          let l = r.lent_row in
          let y = of_done (run_turn.former, run_turn.mid) (item_bounded o at row (omega arith) (omega arith)) run_turn.first in
          let u = y.on in
          (omega arith, y.lent)

      -- what follows it
      run_after : (byte m run_turn.mid >>= (λ b. when eqb b (closes o) then done (none, run_turn.mid) else run o run_turn.mid (row + size run_turn.former))) ≡ done (run_turn.latter, end)
      unfolding run
      run_after = sym (until_step m lent (λ here. here) (closes o) (item_of m lent o kind) (λ a. omega arith) (item_bounded o) run_turn.mid (row + size run_turn.former) run_read.1) ∙ run_turn.second

      byte_there : (a b : ℕ) → byte m a ≡ done b → (a < length m) × (b ≡ get_or m a 0)
      byte_there a b e = (of_done b (byte_law m {S = Unit {0}} a) e, byte_is m lent a 0 b e)

      -- the closing mark stands there
      pub run_closed : get_or m run_turn.mid 0 ≡ closes o → (f ≡ run_turn.former) × (end ≡ run_turn.mid)
      unfolding when◌then◌else◌
      run_closed c =
          let x = bind_done (byte m run_turn.mid) _ run_after in
          let b = (byte_there run_turn.mid x.0 x.1).1 in
          let y = done_pair (rw (eq-eqb _ _ (b ∙ c)) at x.2) in
          (run_turn.is ∙ ap (λ (g : Forest). run_turn.former ⊕ g) (sym y.0) ∙ append_none run_turn.former, sym y.1)

      -- another follows
      pub run_next : (run_turn.mid < length m → get_or m run_turn.mid 0 ≡ closes o → ⊥) → run o run_turn.mid (row + size run_turn.former) ≡ done (run_turn.latter, end)
      unfolding when◌then◌else◌
      run_next c =
          let x = bind_done (byte m run_turn.mid) _ run_after in
          let h = byte_there run_turn.mid x.0 x.1 in
          rw (ne_eqb _ _ (λ q. c h.0 (sym h.1 ∙ q))) at x.2

    module _ {o : Opening} {adv : Forest → ℕ} {low : Forest → ℕ → ℕ} {most at place best next place' best' : ℕ} (r : Rest o adv low most at place best next place' best') where
      abbrev rest_run : Run o at r.row r.members r.end
      rest_run = record { lent_row = r.lent_row; reads = r.reads }

      -- the next of them, and the others
      abbrev pub rest_turn : Both (item_of m lent o kind) (until m (length m) (λ here. here) (closes o) (item_of m lent o kind)) at r.row r.members r.end
      rest_turn = run_turn rest_run

      pub rest_there : at < length m
      rest_there = run_there rest_run

      pub rest_on : at < rest_turn.mid
      rest_on = (run_read rest_run).0

      module _ (sums : Sums adv low) (place₂ best₂ : ℕ) (moved : place₂ ≡ place + adv rest_turn.former) (lowered : best₂ ≡ min best (low rest_turn.former place)) where
        -- the closing mark stands there
        pub rest_closed : get_or m rest_turn.mid 0 ≡ closes o → (next ≡ rest_turn.mid + 1) × ((place₂ ≡ place') × (best₂ ≡ best'))
        rest_closed c =
            let y = run_closed rest_run c in
            let i = y.0 in
            let z = y.1 in
            let w = r.ended in
            (omega arith, (moved ∙ ap (λ (g : Forest). place + adv g) (sym i) ∙ r.onward, lowered ∙ ap (λ (g : Forest). min best (low g place)) (sym i) ∙ r.lowest))

        -- another follows
        pub rest_next : (rest_turn.mid < length m → get_or m rest_turn.mid 0 ≡ closes o → ⊥) → Rest o adv low most rest_turn.mid place₂ best₂ next place' best'
        rest_next c =
            let f = rest_turn.former in
            let g = rest_turn.latter in
            let i = rest_turn.is in
            let s : adv r.members ≡ adv f + adv g = ap adv i ∙ sums.sum f g in
            let l : low r.members place ≡ min (low f place) (low g (place + adv f)) = ap (λ (h : Forest). low h place) i ∙ sums.lower f g place in
            let p = r.onward in
            let q = r.lowest in
            record {
              row = r.row + size f;
              lent_row = (run_read rest_run).1;
              members = g;
              end = r.end;
              reads = run_next rest_run c;
              ended = r.ended;
              within = let v = r.within in let e = ap total_width i ∙ width_append f g in omega arith;
              onward = omega arith;
              lowest = rw moved (omega (arith, l));
            }
