-- Writing an accepted message in house form and reading it again gives the same meaning; and rewriting it again changes nothing.
-- Assumes nothing.
use Prim.Native.Nat.{ℕ, ◌≤◌}
use mathlib.Core.Path.{◌≡◌, refl, sym, subst, ◌∙◌}
use mathlib.Core.Bool.{true, false}
use mathlib.Core.List.{List, [], ◌++◌, append-nil}
use native.Mathlib.Omega.{arith}
use lib.ListN.{length}
use borrow.Author.Tests.{le-leb, eq-eqb}
use Rattle.format.specs.Grammars.{Grammar}
use Rattle.format.specs.Conditions.{among}
use Rattle.format.specs.Outcome.{done}
use Rattle.format.specs.Limits.{limit, value_levels}
use Rattle.format.specs.Marks.{bracket, brace, 'N'}
use Rattle.format.specs.Tokens.{Forest, size}
use Rattle.format.specs.Rows.{outermost, all_rows}
use Rattle.format.specs.HouseForm.{house}
use Rattle.format.specs.Sequences as Sequences
use Rattle.format.specs.Sequences.{Reader, ◌⨾◌}
use Rattle.format.specs.Scalars as Scalars
use Rattle.format.specs.Dimensions as Dimensions
use Rattle.format.specs.Schemas as Schemas
use Rattle.format.specs.Containers as Containers
use Rattle.format.specs.Read as Read
use Rattle.format.proofs.Noops.{skip_end}
use Rattle.laws.proofs.Holds.{of_done}
use Rattle.laws.proofs.Reading.{rows_few}
use Rattle.meaning.specs.Rewriting.{Rewritten, InHouseForm}
use Rattle.meaning.specs.Standing.{AllStand}
use Rattle.meaning.proofs.Same.{same_size, same_rows, same_house}
use Rattle.meaning.proofs.Known.{Succeeds, succeeds, answer, after, guard_known, From, from_length}
use Rattle.meaning.proofs.Accepted.{Sort, value, key, kind, group, dimension, pair, spaced, Number, one, many, Accepted, stop, more, both, apart, a_scalar, a_text, a_number, an_extension, a_key, a_container, a_dimension, a_packed, a_leaf, a_text_leaf, a_kind, a_group, a_table, accepted_members}
use Rattle.meaning.proofs.Accepting.{read_finds}
use Rattle.meaning.proofs.Chains as Chains
use Rattle.meaning.proofs.Chains.{closers, Copy, Reading, Chain, link, seq_reading, spaced_reading}
use Rattle.meaning.proofs.Scalars.{scalar_again, text_again, number_again, extension_again, key_again}
use Rattle.meaning.proofs.Lists.{list_again}
use Rattle.meaning.proofs.Vectors.{vector_closers, dimension_again, shape_again}
use Rattle.meaning.proofs.Payloads.{packed_again}
use Rattle.meaning.proofs.Schemas.{leaf_again, text_leaf_again, kind_again, fixed_again, schema_again}
use Rattle.meaning.proofs.Tables.{table_again}

-- the bytes with which tokens of a sort don't begin
unfoldable avoids : Sort → List ℕ
avoids (value levels) = closers
avoids key = closers
avoids (kind levels) = closers
avoids (group levels o) = closers
avoids dimension = vector_closers
avoids (pair s t) = avoids s
avoids (spaced s) = avoids s

-- `N` is one of them
no_noop : (s : Sort) → among (avoids s) 'N' ≡ true
unfolding avoids vector_closers closers among
no_noop (value levels) = refl
no_noop key = refl
no_noop (kind levels) = refl
no_noop (group levels o) = refl
no_noop dimension = refl
no_noop (pair s t) = no_noop s
no_noop (spaced s) = no_noop s

module _ (m h : List ℕ) (rows_lent : ℕ) (grammar : Grammar) (most : ℕ) (lent : most ≤ rows_lent) (few : most ≤ limit) where
  -- what reads tokens of a sort in house form
  unfoldable reader_of : Sort → Reader
  reader_of (value levels) = Read.value_by h rows_lent grammar (Read.nested h rows_lent grammar levels)
  reader_of key = Scalars.key h rows_lent
  reader_of (kind levels) = Schemas.kind_by h rows_lent (Schemas.nested h rows_lent levels)
  reader_of (group levels o) = Schemas.nested h rows_lent levels o
  reader_of dimension = Dimensions.marked h rows_lent
  reader_of (pair s t) = reader_of s ⨾ reader_of t
  reader_of (spaced s) = Sequences.spaced h (reader_of s)

  unfoldable Again : Number → Sort → Forest → Type 0
  Again one s f = Reading m h most (avoids s) (reader_of s) f
  Again many s f = Chain m h most (avoids s) (reader_of s) f

  -- accepted tokens, as they are written, are read as the same
  again : {n : Number} {s : Sort} {f : Forest} → Accepted m grammar n s f → Again n s f
  unfolding Again reader_of avoids Containers.items Schemas.nested Schemas.group_by
  again stop = Chains.stop
  again (more w p q) = link (accepted_members m grammar p ∙ w) (again p) (again q)
  again (both p q) = seq_reading m h most (again p) (again q)
  again (apart {s = s} p) = spaced_reading m h most (no_noop s) (again p)
  again (a_scalar levels mark at start t c) = scalar_again m h rows_lent grammar most lent _ mark at start t c
  again (a_text levels at start n u c) = text_again m h rows_lent grammar most lent _ at start n u c
  again (a_number levels at start n u c) = number_again m h rows_lent grammar most lent _ at start n u c
  again (an_extension levels id at start n g i u t c) = extension_again m h rows_lent grammar most lent _ id at start n g i u t c
  again (a_key at start n u c) = key_again m h rows_lent grammar most lent at start n u c
  again (a_container levels bracket at start end p) = list_again m h rows_lent grammar most lent few levels bracket at start end (again p)
  again (a_container levels brace at start end p) = list_again m h rows_lent grammar most lent few levels brace at start end (again p)
  again (a_dimension mark at start n u) = dimension_again m h rows_lent most lent mark at start n u
  again (a_packed levels mark at start row n t c d i) =
      packed_again m h rows_lent grammar most lent few levels mark at start row n t c.few (shape_again m h rows_lent most lent true c.shaped c.few (again d)) i
  again (a_leaf levels mark at t) = leaf_again m h rows_lent most lent _ mark at t
  again (a_text_leaf levels at n u) = text_leaf_again m h rows_lent most lent _ at n u
  again (a_kind o p) = kind_again m h rows_lent most lent _ o p (again p)
  again (a_group levels bracket at u p q) = fixed_again m h rows_lent most lent _ at u (again p) (again q)
  again (a_group levels brace at u p q) = schema_again m h rows_lent most lent _ at u (again p) (again q)
  again (a_table levels o at start row n p g v c d i) =
      table_again m h rows_lent grammar most lent few levels o at start row n p g (again p) v c.few (shape_again m h rows_lent most lent false c.shaped c.few (again d)) i

-- the house form of accepted tokens is read as the same
read_again : (m : List ℕ) (rows_lent : ℕ) (grammar : Grammar) (f : Forest) → Accepted m grammar one (value value_levels) f → size f ≤ rows_lent → size f ≤ limit → length (house m f) ≤ limit
    → Succeeds (λ g. Copy m (house m f) f g) (Read.read (house m f) rows_lent grammar)
unfolding Read.read Again reader_of avoids Sequences.spaced
read_again m rows_lent grammar f a lent few u =
    let h : List ℕ = house m f in
    let start : From h 0 (house m f ++ []) = record { here = omega arith; rest = sym (append-nil (house m f)) } in
    let r = spaced_reading m h (size f) (no_noop (value value_levels)) (again m h rows_lent grammar (size f) lent few a) in
    guard_known _ _ _ (le-leb (length h) limit u)
    (after (r.reads 0 0 [] start (omega arith)) λ r hr.
    let end : r.1 ≡ length h = let x = from_length h r.1 [] hr.1 in omega arith in
    guard_known _ _ _ (eq-eqb _ _ (skip_end h r.1 (omega arith) ∙ end)) (succeeds hr.0))

module _ (m : List ℕ) (rows_lent : ℕ) (grammar : Grammar) (f : Forest) (accepted : Read.read m rows_lent grammar ≡ done f) (fits : length (house m f) ≤ limit) where
  copied_tokens : (rows : ℕ) → size f ≤ rows → (g : Forest) × (Read.read (house m f) rows grammar ≡ done g) × Copy m (house m f) f g
  copied_tokens rows enough =
      let a = of_done f (read_finds m rows_lent grammar) accepted in
      let k = rows_few m rows_lent grammar f accepted in
      answer (read_again m rows grammar f a.1 enough (omega arith) fits)

  -- the rows that were lent are enough
  lent : size f ≤ rows_lent
  lent = (rows_few m rows_lent grammar f accepted).1

  -- The house form of an accepted message, where it fits, is accepted with any number of rows that holds the message's, and has the
  -- same meaning.
  pub round_trip_with : (rows : ℕ) → size f ≤ rows → Rewritten m f rows grammar (house m f)
  unfolding all_rows
  round_trip_with rows enough =
      let r = copied_tokens rows enough in
      record { tokens = r.0; accepted = r.1; meaning = same_rows m (house m f) 0 outermost r.2.same; rows_used = same_size m (house m f) r.2.same }

  -- So it is with the rows that were lent to the message.
  pub round_trip : Rewritten m f rows_lent grammar (house m f)
  round_trip = round_trip_with rows_lent lent

  -- It is its own house form, with any such number of rows: rewriting it again changes nothing.
  pub house_settles_with : (rows : ℕ) → size f ≤ rows → InHouseForm (house m f) rows grammar
  house_settles_with rows enough = let r = copied_tokens rows enough in record { tokens = r.0; accepted = r.1; own = same_house m (house m f) r.2.same }

  pub house_settles : InHouseForm (house m f) rows_lent grammar
  house_settles = house_settles_with rows_lent lent

  -- Every token of it stands in it as it is written, from its first byte on.
  pub house_stands : (g : Forest) → Read.read (house m f) rows_lent grammar ≡ done g → AllStand (house m f) g
  house_stands g e =
      let r = copied_tokens rows_lent lent in
      let t : r.0 ≡ g = let x = r.1 in cc in
      subst (AllStand (house m f)) t r.2.stand
