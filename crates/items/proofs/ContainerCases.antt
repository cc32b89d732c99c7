-- The cases of a container, in the order of its tests. Assumes nothing.
use Prim.Native.Nat.{ℕ, zero, suc, ◌+◌, ◌-◌, ◌≤◌, ◌<◌}
use mathlib.Core.Path.{◌≡◌, refl, ◌∙◌}
use mathlib.Core.List.{List}
use native.Mathlib.Omega.{arith}
use native.Mathlib.Numerals.{sub-one}
use lib.ListN.{length, get_or}
use borrow.Author.Tests.{lt-ltb, le-ltb, eq-eqb, ne_eqb}
use Rattle.format.specs.Grammars.{Grammar}
use Rattle.format.specs.Conditions.{when◌then◌else◌}
use Rattle.format.specs.Outcome.{fault, done, ◌>>=◌, ◌>>◌, guard}
use Rattle.format.specs.Refusals.{ends_too_early, too_deep, no_row_left}
use Rattle.format.specs.Marks.{Opening, closes, '#', '$'}
use Rattle.format.specs.Bytes.{byte, skip}
use Rattle.format.specs.Integers.{integer}
use Rattle.format.specs.Sequences.{row_left, repeat, until, spaced}
use Rattle.format.specs.Containers.{counted, plain, typed, items, container_by}
use Rattle.format.specs.Read.{value_by, nested}
use Rattle.containers.specs.Lists.{closed}
use Rattle.containers.proofs.Closing.{counted-fault, counted-closed}
use Rattle.items.specs.Headers.{member_of}

module _ (m : List ℕ) (lent : ℕ) (grammar : Grammar) (at row : ℕ) (o : Opening) where
  pub nested_deep : (levels : ℕ) → levels ≡ 0 → nested m lent grammar levels o at row ≡ fault too_deep at
  unfolding nested
  nested_deep zero e = refl
  nested_deep (suc levels) e = absurd (omega arith)

  by_container : (levels : ℕ) → 0 < levels → nested m lent grammar levels o at row ≡ container_by m lent (value_by m lent grammar (nested m lent grammar (levels - 1))) o at row
  unfolding nested
  by_container zero h = absurd (omega arith)
  by_container (suc levels) h = rw (sub-one (suc levels))

  module _ (levels : ℕ) (deep : 0 < levels) where
    pub nested_no_row : lent ≤ row → nested m lent grammar levels o at row ≡ fault no_row_left at
    unfolding container_by row_left guard ◌>>◌
    nested_no_row h = by_container levels deep ∙ rw (le-ltb _ _ h)

    module _ (left : row < lent) where
      pub nested_early : length m ≤ at + 1 → nested m lent grammar levels o at row ≡ fault ends_too_early (length m)
      unfolding container_by row_left byte guard ◌>>◌ ◌>>=◌
      nested_early h = by_container levels deep ∙ rw (lt-ltb _ _ left, le-ltb _ _ h)

      module _ (there : at + 1 < length m) where
        pub nested_typed : get_or m (at + 1) 0 ≡ '$' → nested m lent grammar levels o at row ≡ typed m lent o at row
        unfolding container_by row_left byte guard ◌>>◌ ◌>>=◌ when◌then◌else◌
        nested_typed e = by_container levels deep ∙ rw (lt-ltb _ _ left, lt-ltb _ _ there, eq-eqb _ _ e)

        pub nested_plain : (get_or m (at + 1) 0 ≡ '$' → ⊥) → (get_or m (at + 1) 0 ≡ '#' → ⊥)
            → nested m lent grammar levels o at row ≡ closed o at (at + 1) 1 (until m (length m) (skip m) (closes o) (member_of m lent grammar (levels - 1) o) (at + 1) (row + 1))
        unfolding container_by row_left byte guard ◌>>◌ ◌>>=◌ when◌then◌else◌ plain closed member_of
        nested_plain e q = by_container levels deep ∙ rw (lt-ltb _ _ left, lt-ltb _ _ there, ne_eqb _ _ e, ne_eqb _ _ q)

        module _ (not-typed : get_or m (at + 1) 0 ≡ '$' → ⊥) (count : get_or m (at + 1) 0 ≡ '#') where
          by_count : nested m lent grammar levels o at row ≡ counted m lent o (spaced m (items m lent o (value_by m lent grammar (nested m lent grammar (levels - 1))))) (at + 2) at row
          unfolding container_by row_left byte guard ◌>>◌ ◌>>=◌ when◌then◌else◌
          by_count = by_container levels deep ∙ rw (lt-ltb _ _ left, lt-ltb _ _ there, ne_eqb _ _ not-typed, eq-eqb _ _ count)

          pub nested_count_fault : (n p : ℕ) → integer m (at + 2) ≡ fault n p → nested m lent grammar levels o at row ≡ fault n p
          nested_count_fault n p e = by_count ∙ counted-fault m lent o _ (at + 2) at row n p e

          pub nested_counted : (n start : ℕ) → integer m (at + 2) ≡ done (n, start)
              → nested m lent grammar levels o at row ≡ closed o at start 0 (repeat n (spaced m (member_of m lent grammar (levels - 1) o)) start (row + 1))
          unfolding member_of
          nested_counted n start e = by_count ∙ counted-closed m lent o _ (at + 2) at row n start e
