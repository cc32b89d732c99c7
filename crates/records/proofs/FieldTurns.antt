-- The top-level fields of a schema, walked one after another. Assumes nothing.
use Prim.Native.Nat.{ℕ, ◌+◌, ◌-◌, ◌≤◌, ◌<◌}
use mathlib.Core.Path.{◌≡◌, refl, sym, ◌∙◌, ap}
use mathlib.Core.Bool.{true}
use mathlib.Core.List.{List}
use native.Mathlib.Omega.{arith}
use lib.ListN.{length, get_or}
use Rattle.format.specs.Conditions.{when◌then◌else◌}
use Rattle.format.specs.Outcome.{Outcome, done}
use Rattle.format.specs.Limits.{record_limit}
use Rattle.format.specs.Marks.{brace, closes}
use Rattle.format.specs.Tokens.{Token, key as kind_of_key, is_kind, Forest, none, node, ◌⊕◌, below_first}
use Rattle.format.specs.Records.{member_width, total_width}
use Rattle.format.specs.Schemas.{table_schema}
use Rattle.format.proofs.Forests.{append_none, width_append}
use Rattle.laws.proofs.Holds.{of_done}
use Rattle.contents.specs.Items.{Unkeyed, bare, named}
use Rattle.contents.proofs.Members.{alike}
use Rattle.contents.proofs.Groups.{kind_of, Opened, Afters, opened, group_wide, group_below}
use Rattle.contents.proofs.Verdicts.{kind_single}
use Rattle.leaf_search.specs.Search.{past, latest, Spot, spot_of, in_fields}
use Rattle.leaf_search.specs.Walks.{Walks}
use Rattle.leaf_search.specs.declared.leaves.Seen.{Seen}
use Rattle.leaf_search.specs.declared.leaves.Seen.TheVariants.{Left, Found}
use Rattle.leaf_search.specs.declared.leaves.Walk.{Walk}
use Rattle.leaf_search.proofs.Turns.{Rest, rest_start, turn, forward, turn_keyed, turn_whole, turn_closed, turn-next}

-- ---- the latest number

pub latest_within : (seen : Seen) (a b n : ℕ) → a ≤ n → b ≤ n → latest seen a b ≤ n
latest_within (Left k) a b n h l = h
latest_within (Found o w) a b n h l = l

pub span_within : (seen : Seen) (beyond offset b n : ℕ) → beyond ≤ n → b ≤ n → latest seen (beyond - offset) b ≤ n
span_within seen beyond offset b n h l = latest_within seen (beyond - offset) b n (omega arith) l

latest_twice : (seen : Seen) (a b k : ℕ) → latest seen a (latest seen b k) ≡ latest seen a k
latest_twice (Left n) a b k = refl
latest_twice (Found o w) a b k = refl

-- ---- one field

module _ (t : Token) (u g : Forest) (offset : ℕ) (seen : Seen) (field span : ℕ) where
  own : in_fields (node t u none ⊕ g) offset seen field span
      ≡ in_fields g (offset + total_width (node t u none)) (past (node t u none) offset seen) (latest seen offset field) (latest seen (total_width (node t u none)) span)
  unfolding in_fields ◌⊕◌ total_width
  own = let z : member_width t + 0 ≡ member_width t = omega arith in rw z

  -- a key before it changes nothing
  behind : (k : Token) → k.kind ≡ kind_of_key → in_fields (node k none (node t u none) ⊕ g) offset seen field span ≡ in_fields (node t u none ⊕ g) offset seen field span
  unfolding in_fields past ◌⊕◌ member_width is_kind when◌then◌else◌
  behind k e = let z : offset + 0 ≡ offset = omega arith in rw (e, z, latest_twice seen offset offset field, latest_twice seen _ 0 span)

  pub fields_member : {f : Forest} → Unkeyed f (node t u none) → in_fields (f ⊕ g) offset seen field span
      ≡ in_fields g (offset + total_width (node t u none)) (past (node t u none) offset seen) (latest seen offset field) (latest seen (total_width (node t u none)) span)
  fields_member bare = own
  fields_member (named {t = k} e) = behind k e ∙ own

-- ---- the fields from one on

-- fields passed from an offset on lead to a record's width and to the leaf in its field
pub record Leads (offset : ℕ) (seen : Seen) (field span wide : ℕ) (answer : Outcome Spot) (f : Forest) : Type 0 where
  pub onward : offset + total_width f ≡ wide
  pub sought : in_fields f offset seen field span ≡ answer

pub fields_opened : {m : List ℕ} {lent schema row next : ℕ} {s : Forest} → table_schema m lent schema row ≡ done (s, next) → Opened m lent 7 brace schema row s next
unfolding table_schema
fields_opened {m} {lent} {schema} {row} {next} {s} e = opened m lent 8 7 brace schema row s next refl e

pub fields_start : {m : List ℕ} {lent schema row next : ℕ} {s : Forest} (leaf : ℕ) → Opened m lent 7 brace schema row s next
    → Rest m lent 7 brace (schema + 1) (Leads 0 (Left leaf) 0 0 (total_width s) (in_fields (below_first s) 0 (Left leaf) 0 0)) next
fields_start {m} {lent} {schema} leaf x =
    rest_start m lent 7 x (record {
      onward = let e = ap total_width x.is ∙ group_wide brace schema x.under in omega arith;
      sought = sym (ap (λ (g : Forest). in_fields (below_first g) 0 (Left leaf) 0 0) x.is ∙ ap (λ (g : Forest). in_fields g 0 (Left leaf) 0 0) (group_below brace schema x.under));
    })

module _ {m : List ℕ} {lent at next offset field span wide : ℕ} {seen : Seen} {answer : Outcome Spot} (r : Rest m lent 7 brace at (Leads offset seen field span wide answer) next)
    (within : wide ≤ record_limit) (from : ℕ) (after : Afters m true at from) (w : Walk) (walks : Walks (λ k. kind_of m k 7) from offset seen w) where
  -- a walk over one field: what the search then is, whatever fields follow
  record Turned : Type 0 where
    ended : w.next ≡ (turn m lent 7 true r).mid
    onward : w.offset ≡ offset + total_width (turn m lent 7 true r).former
    sought : (g : Forest) → in_fields ((turn m lent 7 true r).former ⊕ g) offset seen field span ≡ in_fields g w.offset w.seen (latest seen offset field) (latest seen (w.offset - offset) span)

  turned : Turned
  turned =
      let t = turn m lent 7 true r in
      let k = turn_keyed m lent 7 true r from after in
      let e = (alike k.unkeyed).wide in
      let p = (turn_whole m lent 7 true r).onward in
      let q = width_append t.former t.latter in
      let o = walks lent k.row t.mid k.member k.lent_row k.reads (omega arith) in
      let s = of_done (k.member, t.mid) (kind_single m lent 7 from k.row) k.reads in
      let v : w.offset - offset ≡ total_width k.member = omega (arith, o.onward) in
      let u : Unkeyed t.former (node s.token s.under none) = rw s.is at k.unkeyed in
      record {
        ended = o.ended;
        onward = o.onward ∙ ap (λ (n : ℕ). offset + n) (sym e);
        sought = λ g. rw (v, o.onward, o.sought, s.is) (fields_member s.token s.under g offset seen field span u);
      }

  pub fields_on : at < w.next
  fields_on = let e = turned.ended in let h = forward m lent 7 true r in omega arith

  pub fields_closed : get_or m w.next 0 ≡ closes brace → (next ≡ w.next + 1) × ((w.offset ≡ wide) × (spot_of w.seen (latest seen offset field) (latest seen (w.offset - offset) span) ≡ answer))
  unfolding in_fields
  fields_closed c =
      let x = turn_closed m lent 7 true r (rw turned.ended at c) in
      (rw turned.ended x.0, (turned.onward ∙ x.1.onward, sym (turned.sought none) ∙ rw (append_none (turn m lent 7 true r).former) x.1.sought))

  pub fields_next : (w.next < length m → get_or m w.next 0 ≡ closes brace → ⊥)
      → Rest m lent 7 brace w.next (Leads w.offset w.seen (latest seen offset field) (latest seen (w.offset - offset) span) wide answer) next
  fields_next c =
      let t = turn m lent 7 true r in
      rw turned.ended (turn-next m lent 7 true r (rw turned.ended at c) (λ g p.
      let e = turned.onward in
      let q = width_append t.former g in
      let i = p.onward in
      record { onward = omega arith; sought = sym (turned.sought g) ∙ p.sought }))
