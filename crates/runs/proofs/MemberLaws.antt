-- A scalar, a text and a key whose end is known: each is read, whatever reads a container, and a value or a pair of them is one member
-- that is passed. Assumes nothing.
use Prim.Native.Nat.{ℕ, ◌+◌, ◌-◌, ◌≤◌, ◌<◌}
use mathlib.Core.Path.{◌≡◌, refl, sym, ap, ◌∙◌}
use mathlib.Core.Bool.{Bool, true, false, not, false≢true}
use mathlib.Core.List.{List, [], ◌∷◌}
use native.Mathlib.Omega.{arith}
use lib.ListN.{length, get_or}
use borrow.Author.Tests.{lt-ltb, ne_eqb}
use Rattle.format.specs.Grammars.{Grammar}
use Rattle.format.specs.Conditions.{when◌then◌else◌, among, all}
use Rattle.format.specs.Outcome.{done, ◌>>=◌, ◌>>◌, guard}
use Rattle.format.specs.Marks.{Opening, bracket, brace, closes, integers, is_integer, types, is_scalar, width, 'F', 'N', 'S', 'T', 'Z', ']', right_brace}
use Rattle.format.specs.Tokens as Tokens
use Rattle.format.specs.Tokens.{Token, alone, uncounted, is_kind, members}
use Rattle.format.specs.Rows.{Ancestry, row_of}
use Rattle.format.specs.Bytes.{byte}
use Rattle.format.specs.Sequences.{Reader, ◌⨾◌, spaced}
use Rattle.format.specs.Scalars.{key}
use Rattle.format.specs.Containers.{items}
use Rattle.format.specs.Read.{value_by}
use Rattle.format.proofs.MarkFacts.{among_passes}
use Rattle.format.proofs.Noops.{skip_here}
use Rattle.rows.specs.Row.{store}
use Rattle.tokens.specs.Answers.{Laid, Here}
use Rattle.tokens.proofs.Cases.{after, scalar-row, text_there_lem, key_there}
use Rattle.tokens.proofs.Laying.{laid_alone}
use Rattle.tokens.proofs.Sofar.{seq_meets}
use Rattle.ends.specs.Ends.{ScalarEnds, TextEnds, KeyEnds, ValueEnds, text_there, scalar_there}
use Rattle.runs.specs.Runs.{Begins, Stands, StandsAlone, PassedIn, RunEnds, value_start, value_token}
use Rattle.std.specs.Prelude.{Ok}
use Rattle.tokens.specs.declared.Members.{Members}
use Rattle.runs.proofs.Passing.{passed_start, passed_one, passed_join}

-- ---- a mark that is neither `N` nor a closing mark

unfoldable begins : ℕ → Bool
begins mark = not (among ('N' ∷ ']' ∷ right_brace ∷ []) mark)

closing_ends : (opening : Opening) → begins (closes opening) ≡ false
unfolding begins among closes
closing_ends bracket = refl
closing_ends brace = refl

scalar_begins : (mark : ℕ) → is_scalar mark ≡ true → begins mark ≡ true
unfolding is_scalar types integers all begins among
scalar_begins mark h = among_passes begins ('Z' ∷ 'T' ∷ 'F' ∷ types) mark refl h

scalar_no_text : (mark : ℕ) → is_scalar mark ≡ true → mark ≡ 'S' → ⊥
unfolding is_scalar types integers among
scalar_no_text mark h e = false≢true (sym (ap is_scalar e) ∙ h)

begins_here : (m : List ℕ) (at : ℕ) (opening : Opening) → at < length m → begins (get_or m at 0) ≡ true → Begins m (closes opening) at
unfolding begins among
begins_here m at opening there h =
    record {
      there = there;
      here = skip_here m at there (λ e. false≢true (sym (ap begins e) ∙ h));
      more = λ e. false≢true (sym (closing_ends opening) ∙ sym (ap begins e) ∙ h);
    }

-- ---- a text or a scalar, by its mark

module _ (mark at : ℕ) where
  pub value_start_text : mark ≡ 'S' → value_start mark at ≡ at + 3
  unfolding value_start when◌then◌else◌
  value_start_text e = rw e

  pub value_start_scalar : (mark ≡ 'S' → ⊥) → value_start mark at ≡ at + 1
  unfolding value_start when◌then◌else◌
  value_start_scalar e = rw (ne_eqb _ _ e)

  pub value_token_text : (end : ℕ) → mark ≡ 'S' → value_token mark at end ≡ uncounted Tokens.text 'S' at (at + 3) (end - (at + 3))
  unfolding value_token when◌then◌else◌
  value_token_text end e = rw (value_start_text e, e)

  pub value_token_scalar : (end : ℕ) → (mark ≡ 'S' → ⊥) → value_token mark at end ≡ uncounted Tokens.scalar mark at (at + 1) (end - (at + 1))
  unfolding value_token when◌then◌else◌
  value_token_scalar end e = rw (value_start_scalar e, ne_eqb _ _ e)

-- ---- a value that is one token

module _ (m : List ℕ) (at : ℕ) where
  module _ (end : ℕ) where
    pub scalar_stands : ScalarEnds m at end → Stands m at (uncounted Tokens.scalar (get_or m at 0) at (at + 1) (end - (at + 1))) end
    unfolding members is_kind value_by byte guard ◌>>◌ ◌>>=◌ when◌then◌else◌ after
    scalar_stands s =
        let there : at < length m = omega arith in
        let n : end - (at + 1) ≡ width (get_or m at 0) = omega arith in
        record {
          starts = λ opening. begins_here m at opening there (scalar_begins _ s.marked);
          on = omega arith;
          one = refl;
          read = λ lent row h grammar nested. rw (lt-ltb _ _ there, s.marked, n) (scalar-row m lent at row (get_or m at 0) (at + 1) h ∙ rw s.right);
        }

    pub text_stands : TextEnds m at end → Stands m at (uncounted Tokens.text 'S' at (at + 3) (end - (at + 3))) end
    unfolding members is_kind is_scalar types integers begins among value_by byte guard ◌>>◌ ◌>>=◌ when◌then◌else◌ after
    text_stands s =
        let there : at < length m = omega arith in
        let n : end - (at + 3) ≡ get_or m (at + 2) 0 = omega arith in
        record {
          starts = λ opening. begins_here m at opening there (rw s.marked);
          on = omega arith;
          one = refl;
          read = λ lent row h grammar nested. rw (lt-ltb _ _ there, s.marked, n) (text_there_lem m lent at row Tokens.text 'S' _ _ h s.long ∙ rw s.right);
        }

    -- as a loop is told of them
    pub scalar_alone : ScalarEnds m at end → StandsAlone m Tokens.scalar 1 at end
    scalar_alone s = record { stands = scalar_stands s; payload = omega arith; inside = s.inside }

    pub text_alone : TextEnds m at end → StandsAlone m Tokens.text 3 at end
    text_alone s = record { stands = rw s.marked (text_stands s); payload = omega arith; inside = s.inside }

    -- either, by its mark
    pub value_stands : ValueEnds m at end → Stands m at (value_token (get_or m at 0) at end) end
    value_stands (text_there s) = rw (value_token_text _ at end s.marked) (text_stands s)
    value_stands (scalar_there s) = rw (value_token_scalar _ at end (scalar_no_text _ s.marked)) (scalar_stands s)

    pub value_starts : ValueEnds m at end → value_start (get_or m at 0) at ≤ end
    value_starts (text_there s) = rw (value_start_text _ at s.marked) (omega arith)
    value_starts (scalar_there s) = rw (value_start_scalar _ at (scalar_no_text _ s.marked)) (omega arith)

    pub value_inside : ValueEnds m at end → (at < end) × (end ≤ length m)
    value_inside (text_there s) = omega arith
    value_inside (scalar_there s) = omega arith

    -- a key
    module _ (s : KeyEnds m at end) where
      key_inside : at < length m
      key_inside = omega arith

      key_starts : Begins m (closes brace) at
      unfolding begins among
      key_starts = begins_here m at brace key_inside (rw s.marked)

      key_read : (lent row : ℕ) → row < lent → key m lent at row ≡ done (alone (uncounted Tokens.key 'S' at (at + 2) (end - (at + 2))), end)
      unfolding is_integer integers among ◌>>=◌ after
      key_read lent row h =
          let n : end - (at + 2) ≡ get_or m (at + 1) 0 = omega arith in
          rw n (key_there m lent at row key_inside (rw s.marked) (get_or m (at + 1) 0) (at + 2) h (rw s.marked s.long) ∙ rw s.right)

-- ---- a member of such tokens

module _ (m : List ℕ) (lent : ℕ) (ancestry : Ancestry) where
  -- its row lies in the words
  laid_value : (at row next : ℕ) (t : Token) (now after : List ℕ) → Stands m at t next → row < lent → after ≡ store now row (row_of t (row + 1) ancestry)
      → (grammar : Grammar) (nested : Opening → Reader) → Laid (value_by m lent grammar nested at row) row 1 ancestry now after next (row + 1)
  laid_value at row next t now after s h e grammar nested = rw (s.read lent row h grammar nested) (rw s.one at (laid_alone t row next ancestry now after e))

  -- a member of an array
  pub value_passed : (at row next : ℕ) (t : Token) (now after : List ℕ) → Stands m at t next → row < lent → after ≡ store now row (row_of t (row + 1) ancestry)
      → PassedIn m lent bracket at row ancestry now (record { at = next; row = row + 1; count = 1 }) after
  unfolding items
  value_passed at row next t now after s h e grammar nested =
      passed_one m (closes bracket) (value_by m lent grammar nested) at row next (row + 1) ancestry now after (s.starts bracket) s.on (laid_value at row next t now after s h e grammar nested)

  -- a member of an object: a key, and the value right after it
  pub pair_passed : (at row value next : ℕ) (t : Token) (now mid after : List ℕ) → KeyEnds m at value → Stands m value t next → row + 1 < lent
      → mid ≡ store now row (row_of (uncounted Tokens.key 'S' at (at + 2) (value - (at + 2))) (row + 1) ancestry) → after ≡ store mid (row + 1) (row_of t (row + 1 + 1) ancestry)
      → PassedIn m lent brace at row ancestry now (record { at = next; row = row + 1 + 1; count = 1 }) after
  unfolding items spaced members is_kind when◌then◌else◌
  pair_passed at row value next t now mid after k s h d e grammar nested =
      passed_one m (closes brace) (key m lent ⨾ spaced m (value_by m lent grammar nested)) at row next (row + 1 + 1) ancestry now after (key_starts m at value k) (omega arith)
      (seq_meets (Ok (record { at = next; row = row + 1 + 1 })) (key m lent) (spaced m (value_by m lent grammar nested)) at row 0 value (row + 1) 1 ancestry now mid after
      (rw (key_read m at value k lent row (omega arith)) (laid_alone _ row value ancestry now mid d))
      (rw (s.starts brace).here (laid_value value (row + 1) next t mid after s h e grammar nested)))

  -- some members, and then more
  pub passed_more : (opening : Opening) (start first : ℕ) (before now after : List ℕ) (r q : Members) → PassedIn m lent opening start first ancestry before r now
      → PassedIn m lent opening r.at r.row ancestry now q after → PassedIn m lent opening start first ancestry before (record { at = q.at; row = q.row; count = r.count + q.count }) after
  passed_more opening start first before now after r q p h grammar nested = passed_join m (closes opening) (items m lent opening (value_by m lent grammar nested)) (p grammar nested) (h grammar nested)

-- ---- a loop over them

module _ (m : List ℕ) (lent : ℕ) (opening : Opening) (most start first : ℕ) (ancestry : Ancestry) (before : List ℕ) where
  -- where it is, and what it has passed
  pub record Running (at row count : ℕ) (now : List ℕ) : Type 0 where
    pub ends : RunEnds most start (length m) lent (record { at = at; row = row; count = count })
    pub same : length now ≡ length before
    pub passed : PassedIn m lent opening start first ancestry before (record { at = at; row = row; count = count }) now

  -- none is passed yet
  pub running_start : Here m lent start first → Running start first 0 before
  running_start h = record { ends = omega arith; same = refl; passed = λ grammar nested. passed_start _ _ _ start first ancestry before }

  -- one more is passed
  pub running_turn : {at row count next row' : ℕ} {now after : List ℕ} → Running at row count now → count < most → at < next → next ≤ length m → row' ≤ lent → row' ≤ next
      → length after ≡ length now → PassedIn m lent opening at row ancestry now (record { at = next; row = row'; count = 1 }) after → Running next row' (count + 1) after
  running_turn {at} {row} {count} {next} {row'} {now} {after} r few on inside row_lent row_byte same p =
      record {
        ends = record { on = omega arith; inside = inside; row_lent = row_lent; row_byte = row_byte; few = omega arith };
        same = same ∙ r.same;
        passed = passed_more m lent ancestry opening start first before now after (record { at = at; row = row; count = count }) (record { at = next; row = row'; count = 1 }) r.passed p;
      }
