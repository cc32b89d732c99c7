-- The members of a schema or a fixed array, walked one after another. Assumes nothing.
use Prim.Native.Nat.{ℕ, ◌+◌, ◌≤◌, ◌<◌}
use mathlib.Core.Path.{◌≡◌, sym, ◌∙◌, ap, subst}
use mathlib.Core.Bool.{Bool}
use mathlib.Core.List.{List}
use native.Mathlib.Omega.{arith}
use lib.ListN.{length, get_or}
use Rattle.format.specs.Limits.{record_limit}
use Rattle.format.specs.Marks.{Opening, opening_of, closes}
use Rattle.format.specs.Tokens.{Forest, size, ◌⊕◌}
use Rattle.format.specs.Records.{total_width}
use Rattle.format.specs.Sequences.{until}
use Rattle.format.proofs.Forests.{width_append}
use Rattle.contents.specs.Items.{item_of, Keyed}
use Rattle.columns.proofs.Inverse.{Both}
use Rattle.contents.proofs.Members.{alike, Run, run_turn, run_there, run_read, run_closed, run_next}
use Rattle.contents.proofs.Groups.{kind_of, kind_there, kind_bounds, Opened, Afters, group_wide}
use Rattle.leaf_search.specs.Search.{past}
use Rattle.leaf_search.specs.Walks.{Walks}
use Rattle.leaf_search.specs.declared.leaves.Seen.{Seen}
use Rattle.leaf_search.specs.declared.leaves.Walk.{Walk}
use Rattle.leaf_search.proofs.Search.{past_append, past-group, past_unkeyed}

module _ (m : List ℕ) (lent l : ℕ) where
  abbrev RunOf : Opening → ℕ → ℕ → Forest → ℕ → Type 0
  RunOf = Run m lent (kind_of m lent l) (kind_there m lent l) (kind_bounds m lent l)

  -- what remains of the members, from a place on, and what holds of it
  pub record Rest (o : Opening) (at : ℕ) (P : Forest → Type 0) (next : ℕ) : Type 0 where
    pub row : ℕ
    pub members : Forest
    pub end : ℕ
    pub reads : RunOf o at row members end
    pub ended : next ≡ end + 1
    pub meets : P members

  pub rest_start : {o : Opening} {at row next : ℕ} {f : Forest} {P : Forest → Type 0} (x : Opened m lent l o at row f next) → P x.under → Rest o (at + 1) P next
  rest_start {row = row} x p =
      record { row = row + 1; members = x.under; end = x.end; reads = record { lent_row = let h = x.row_lent in omega arith; reads = x.reads }; ended = x.ended; meets = p }

  module _ (b : Bool) {at next : ℕ} {P : Forest → Type 0} (r : Rest (opening_of b) at P next) where
    -- the next of them, and the others
    abbrev pub turn : Both (item_of m lent (opening_of b) (kind_of m lent l)) (until m (length m) (λ here. here) (closes (opening_of b)) (item_of m lent (opening_of b) (kind_of m lent l))) at r.row r.members r.end
    turn = run_turn m lent (kind_of m lent l) (kind_there m lent l) (kind_bounds m lent l) r.reads

    pub inside : at < length m
    inside = run_there m lent (kind_of m lent l) (kind_there m lent l) (kind_bounds m lent l) r.reads

    pub forward : at < turn.mid
    forward = (run_read m lent (kind_of m lent l) (kind_there m lent l) (kind_bounds m lent l) r.reads).0

    pub turn_keyed : (from : ℕ) → Afters m b at from → Keyed lent (kind_of m lent l) turn.former turn.mid from
    turn_keyed from a = a lent r.row turn.mid (kind_of m lent l) turn.former r.reads.lent_row (let h = inside in omega arith) turn.first

    pub turn_whole : P (turn.former ⊕ turn.latter)
    turn_whole = subst P turn.is r.meets

    -- the closing mark stands after it
    pub turn_closed : get_or m turn.mid 0 ≡ closes (opening_of b) → (next ≡ turn.mid + 1) × P turn.former
    turn_closed c =
        let x = run_closed m lent (kind_of m lent l) (kind_there m lent l) (kind_bounds m lent l) r.reads c in
        let e = x.1 in
        let k = r.ended in
        (omega arith, subst P x.0 r.meets)

    -- another follows
    pub turn-next : {Q : Forest → Type 0} → (turn.mid < length m → get_or m turn.mid 0 ≡ closes (opening_of b) → ⊥) → ((g : Forest) → P (turn.former ⊕ g) → Q g) → Rest (opening_of b) turn.mid Q next
    turn-next c k = record {
      row = r.row + size turn.former;
      members = turn.latter;
      end = r.end;
      reads = record {
        lent_row = (run_read m lent (kind_of m lent l) (kind_there m lent l) (kind_bounds m lent l) r.reads).1;
        reads = run_next m lent (kind_of m lent l) (kind_there m lent l) (kind_bounds m lent l) r.reads c;
      };
      ended = r.ended;
      meets = k turn.latter turn_whole;
    }

-- ---- a schema or a fixed array

-- members passed from an offset on lead to an offset and to what is seen then
pub record Leads (offset : ℕ) (seen : Seen) (offset' : ℕ) (seen' : Seen) (f : Forest) : Type 0 where
  pub onward : offset + total_width f ≡ offset'
  pub sought : past f offset seen ≡ seen'

pub group_start : {m : List ℕ} {lent l : ℕ} {o : Opening} {at row next : ℕ} {f : Forest} (offset : ℕ) (seen : Seen) → Opened m lent l o at row f next
    → Rest m lent l o (at + 1) (Leads offset seen (offset + total_width f) (past f offset seen)) next
group_start {m} {lent} {l} {o} {at} {f = f} offset seen x =
    rest_start m lent l x (record {
      onward = ap (λ (w : ℕ). offset + w) (sym (ap total_width x.is ∙ group_wide o at x.under));
      sought = sym (ap (λ (g : Forest). past g offset seen) x.is ∙ past-group o at x.under offset seen);
    })

module _ {m : List ℕ} {lent l : ℕ} (b : Bool) {at next offset offset' : ℕ} {seen seen' : Seen} (r : Rest m lent l (opening_of b) at (Leads offset seen offset' seen') next)
    (within : offset' ≤ record_limit) (from : ℕ) (after : Afters m b at from) (w : Walk) (walks : Walks (λ k. kind_of m k l) from offset seen w) where
  -- a walk over one member
  record Turned : Type 0 where
    ended : w.next ≡ (turn m lent l b r).mid
    onward : w.offset ≡ offset + total_width (turn m lent l b r).former
    sought : w.seen ≡ past (turn m lent l b r).former offset seen

  turned : Turned
  turned =
      let t = turn m lent l b r in
      let k = turn_keyed m lent l b r from after in
      let e = (alike k.unkeyed).wide in
      let p = (turn_whole m lent l b r).onward in
      let q = width_append t.former t.latter in
      let o = walks lent k.row t.mid k.member k.lent_row k.reads (omega arith) in
      record { ended = o.ended; onward = o.onward ∙ ap (λ (n : ℕ). offset + n) (sym e); sought = o.sought ∙ sym (past_unkeyed k.unkeyed offset seen) }

  pub group_on : at < w.next
  group_on = let e = turned.ended in let h = forward m lent l b r in omega arith

  pub group_closed : get_or m w.next 0 ≡ closes (opening_of b) → (next ≡ w.next + 1) × ((w.offset ≡ offset') × (w.seen ≡ seen'))
  group_closed c =
      let x = turn_closed m lent l b r (rw turned.ended at c) in
      (rw turned.ended x.0, (turned.onward ∙ x.1.onward, turned.sought ∙ x.1.sought))

  pub group_next : (w.next < length m → get_or m w.next 0 ≡ closes (opening_of b) → ⊥) → Rest m lent l (opening_of b) w.next (Leads w.offset w.seen offset' seen') next
  group_next c =
      let t = turn m lent l b r in
      rw turned.ended (turn-next m lent l b r (rw turned.ended at c) (λ g p.
      let e = turned.onward in
      let q = width_append t.former g in
      let i = p.onward in
      record { onward = omega arith; sought = rw (turned.onward, turned.sought) (sym (past_append t.former g offset seen) ∙ p.sought) }))
