-- The loop over the members of a record or a fixed array: before a member, and after it. Assumes nothing.
use Prim.Native.Nat.{ℕ, zero, suc, ◌+◌, ◌-◌, ◌≤◌, ◌<◌}
use mathlib.Core.Path.{◌≡◌, refl, sym, ◌∙◌}
use mathlib.Core.Bool.{Bool, true, false}
use mathlib.Core.List.{List}
use native.Mathlib.Omega.{arith}
use lib.ListN.{length}
use lib.Dec.{ltb}
use borrow.Author.Tests.{ltb-true, ltb-false, lt-ltb, eq-eqb, ne_eqb}
use Rattle.std.specs.Prelude.{Ok}
use Rattle.format.specs.Conditions.{when◌then◌else◌}
use Rattle.format.specs.Outcome.{Parsed, fault, done, ◌>>=◌, ◌>>◌, guard}
use Rattle.format.specs.Limits.{limit}
use Rattle.format.specs.Refusals.{ends_too_early}
use Rattle.format.specs.Marks.{Opening, opens, closes, opening_of}
use Rattle.format.specs.Tokens.{Kind, key as kind_of_key, Forest, none, size, is_kind}
use Rattle.format.specs.Records.{total_width}
use Rattle.format.specs.Rows.{Ancestry, held_by, row_of}
use Rattle.format.specs.Bytes.{byte}
use Rattle.format.specs.Sequences.{Reader, ◌⨾◌, until}
use Rattle.format.specs.Schemas.{group, enclosed}
use Rattle.format.proofs.Forests.{append_none}
use Rattle.rows.specs.Row.{store}
use Rattle.scan.specs.Stands.{stands}
use Rattle.scan.proofs.Stands.{stands_there, stands_other}
use Rattle.laws.proofs.Bounds.{byte_starts}
use Rattle.tokens.specs.Answers.{onto, Here}
use Rattle.tokens.proofs.Sofar.{seq_fault}
use Rattle.kinds.specs.Answers.{over, group_at, group_from, Read, Sofar, StartMeets, Ends, StartWithin}
use Rattle.kinds.specs.declared.Kinds.{Kinds}
use Rattle.kinds.specs.declared.starts.Start.{Start}
use Rattle.kinds.specs.declared.starts.Start.TheVariants.{Whole, Opens}
use Rattle.kinds.proofs.Placing.{group-size, group-members, group_width, group_lies}
use Rattle.kinds.proofs.Sofar.{sofar_start, sofar_as, sofar_step, sofar_fault, sofar_meets}

-- ---- up to a closing mark

module _ (m : List ℕ) (closing : ℕ) (item : Reader) where
  abbrev rest : ℕ → Reader
  rest fuel = until m fuel (λ here. here) closing item

  rest_closed : (fuel at row : ℕ) → length m ≤ at + fuel → stands m at closing ≡ true → rest fuel at row ≡ done (none, at)
  unfolding until byte guard ◌>>◌ ◌>>=◌ when◌then◌else◌
  rest_closed zero at row h e = let s = stands_there m at closing e in absurd (omega arith)
  rest_closed (suc fuel) at row h e = let s = stands_there m at closing e in rw (lt-ltb _ _ s.0, eq-eqb _ _ s.1)

  -- another item, given that none begins at the message's end
  rest_on : (fuel at row : ℕ) → length m ≤ at + fuel → stands m at closing ≡ false → (length m ≤ at → item at row ≡ fault ends_too_early (length m))
      → (less : ℕ) × (length m ≤ at + 1 + less) × (rest fuel at row ≡ (item ⨾ rest less) at row)
  unfolding until byte guard ◌>>◌ ◌>>=◌ when◌then◌else◌
  rest_on zero at row h e early = (0, omega arith, sym (seq_fault item (rest 0) at row _ _ (early (omega arith))))
  rest_on (suc fuel) at row h e early = (fuel, omega arith, go (ltb at (length m)) refl)
    where
      go : (b : Bool) → ltb at (length m) ≡ b → rest (suc fuel) at row ≡ (item ⨾ rest fuel) at row
      go true k = rw (k, ne_eqb _ _ (stands_other m at closing e (ltb-true _ _ k)))
      go false k = byte_starts m at _ (ltb-false _ _ k) ∙ sym (seq_fault item (rest fuel) at row _ _ (early (ltb-false _ _ k)))

-- ---- the loop

module _ (m : List ℕ) (lent : ℕ) (kind : Kind) (o : Opening) (item : Reader) (at row offset : ℕ) (ancestry : Ancestry) (before : List ℕ) where
  abbrev inner : Parsed Forest
  inner = (item ⨾ rest m (closes o) item (length m)) (at + 1) (row + 1)

  -- places, rows and offsets
  pub record Bounds (here next end count : ℕ) : Type 0 where
    pub short : length m ≤ limit
    pub on : at < here
    pub inside : here ≤ length m
    pub row_on : row < next
    pub row_lent : next ≤ lent
    pub row_byte : next ≤ here
    pub rise : offset ≤ end
    pub most : end ≤ over
    pub few : count < here

  -- a member must begin here
  pub record Before (here next end count : ℕ) (now : List ℕ) : Type 0 where
    pub bounds : Bounds here next end count
    pub fuel : ℕ
    pub enough : length m ≤ here + 1 + fuel
    pub sofar : Sofar inner (row + 1) offset ancestry before ((item ⨾ rest m (closes o) item fuel) here next) next count end now

  -- a member ends here
  pub record After (here next end count : ℕ) (now : List ℕ) : Type 0 where
    pub bounds : Bounds here next end count
    pub fuel : ℕ
    pub enough : length m ≤ here + fuel
    pub sofar : Sofar inner (row + 1) offset ancestry before (rest m (closes o) item fuel here next) next count end now

  pub loop_start : Here m lent at row → at < length m → row < lent → offset ≤ over → Before (at + 1) (row + 1) offset 0 before
  loop_start h i l w = record {
    bounds = record { short = h.short; on = omega arith; inside = omega arith; row_on = omega arith; row_lent = omega arith; row_byte = omega arith; rise = omega arith; most = w; few = omega arith };
    fuel = length m;
    enough = omega arith;
    sofar = sofar_start inner inner (row + 1) offset ancestry before w refl;
  }

  module _ {here next end count : ℕ} {now : List ℕ} where
    -- it is refused
    pub loop_fault : (n p : ℕ) → Before here next end count now → item here next ≡ fault n p → enclosed m lent kind o item at row ≡ fault n p
    unfolding enclosed ◌>>=◌
    loop_fault n p b e = let q = sofar_fault b.sofar n p (seq_fault item _ here next n p e) in rw q

    -- it is read
    pub loop_read : (here' next' end' : ℕ) (after : List ℕ) → Before here next end count now → Read (item here next) next end ancestry now after here' next' end'
        → Ends (here + 1) (length m) lent end here' next' end' → After here' next' end' (count + 1) after
    loop_read here' next' end' after b r e =
        let x = b.bounds in
        let y : next ≤ next' = omega (arith, r.took) in record {
          bounds = record { short = x.short; on = omega arith; inside = e.inside; row_on = omega arith; row_lent = e.row_lent; row_byte = e.row_byte; rise = omega arith; most = e.most; few = omega arith };
          fuel = b.fuel;
          enough = omega (arith, b.enough);
          sofar = sofar_step b.sofar item _ here here' next' end' after refl r;
        }

    -- the next begins
    pub loop_on : After here next end count now → stands m here (closes o) ≡ false → (length m ≤ here → item here next ≡ fault ends_too_early (length m)) → Before here next end count now
    loop_on a s early =
        let g = rest_on m (closes o) item a.fuel here next a.enough s early in
        record { bounds = a.bounds; fuel = g.0; enough = g.1; sofar = sofar_as a.sofar _ g.2 }

    -- there is no more
    pub loop_end : After here next end count now → stands m here (closes o) ≡ true → is_kind kind_of_key kind ≡ false → (outer : Ancestry) → ancestry ≡ held_by row outer → (after : List ℕ)
        → after ≡ store now row (row_of (group_at kind (opens o) at offset (end - offset) count) next outer)
        → Read (enclosed m lent kind o item at row) row offset outer before after (here + 1) next end
    unfolding enclosed onto ◌>>=◌
    loop_end a s k outer i after e =
        let f = a.sofar.forest in
        let r = rest_closed m (closes o) item a.fuel here next a.enough s in
        let q : inner ≡ done (f, here) = a.sofar.is ∙ rw (r, append_none f) in
        let w = group_width kind o at f k in
        let z = group-size kind o at f in
        record {
          forest = group kind o at f;
          read = rw q;
          counted = group-members kind o at f k;
          took = omega (arith, a.sofar.took);
          wide = omega (arith, a.sofar.wide);
          lie = λ h.
              let x : end - offset ≡ total_width f = omega (arith, a.sofar.wide) in
              let y : next ≡ suc row + size f = omega (arith, a.sofar.took) in
              e ∙ rw (a.sofar.lie h, i, x, ← a.sofar.counted) (group_lies kind o at row offset next outer f before k y);
        }

-- ---- one member, by where it begins

-- what a turn of the loop has of it
pub record Member (m : List ℕ) (lent : ℕ) (item : Reader) (here next end : ℕ) (ancestry : Ancestry) (before after : List ℕ) (k : Kinds) : Type 0 where
  pub kept : length after ≡ length before
  pub read : Read (item here next) next end ancestry before after k.at k.row k.offset
  pub bounds : Ends (here + 1) (length m) lent end k.at k.row k.offset

-- it is read at once; or its members were read after it
pub member_whole : (m : List ℕ) (lent levels here next end : ℕ) (item : Reader) (ancestry : Ancestry) (before after : List ℕ) (k : Kinds) (r : Start) → r ≡ Whole k → length after ≡ length before
    → StartMeets (Ok r) m lent levels (item here next) next end ancestry before after → StartWithin (Ok r) here (length m) lent levels end → Member m lent item here next end ancestry before after k
member_whole m lent levels here next end item ancestry before after k r e l s w = record { kept = l; read = rw e at s; bounds = rw e at w }

pub member_opens : (m : List ℕ) (lent levels here next end a b : ℕ) (brace : Bool) (item : Reader) (ancestry : Ancestry) (before mid after : List ℕ) (k : Kinds) (r : Start) → r ≡ Opens brace a b → length after ≡ length before
    → StartMeets (Ok r) m lent levels (item here next) next end ancestry before mid → StartWithin (Ok r) here (length m) lent levels end
    → Read (group_from m lent (levels - 1) (opening_of brace) a b) b end ancestry mid after k.at k.row k.offset → Ends (a + 1) (length m) lent end k.at k.row k.offset
    → Member m lent item here next end ancestry before after k
member_opens m lent levels here next end a b brace item ancestry before mid after k r e l s w x y =
    let q = rw e at w in
    record { kept = l; read = sofar_meets (Ok k) after (rw e at s) x; bounds = omega arith }

-- its members are refused
pub opens_wrong : (m : List ℕ) (lent levels here next end a b : ℕ) (brace : Bool) (item : Reader) (ancestry : Ancestry) (before mid : List ℕ) (r : Start) (n p : ℕ) → r ≡ Opens brace a b
    → StartMeets (Ok r) m lent levels (item here next) next end ancestry before mid → group_from m lent (levels - 1) (opening_of brace) a b ≡ fault n p → item here next ≡ fault n p
opens_wrong m lent levels here next end a b brace item ancestry before mid r n p e s x = sofar_fault (rw e at s) n p x
