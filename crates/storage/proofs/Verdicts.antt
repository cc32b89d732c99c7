-- What the address calls answer in the rows of an accepted message, for every address. Assumes nothing.
use Prim.Native.Nat.{ℕ, ◌+◌, ◌≤◌}
use mathlib.Core.Path.{◌≡◌, refl, ap, ◌∙◌}
use mathlib.Core.Bool.{Bool, false}
use mathlib.Core.List.{List, [], ◌∷◌}
use mathlib.Core.Logic.{◌⊎◌, inl, inr}
use native.Mathlib.Omega.{arith}
use native.Mathlib.Decide.{dec_lt}
use lib.ListN.{length}
use lib.Dec.{eqb}
use Rattle.format.specs.Grammars.{Grammar}
use Rattle.format.specs.Outcome.{fault, done, ◌>>=◌}
use Rattle.format.specs.Refusals.{rows_dont_fit}
use Rattle.format.specs.Conditions.{among}
use Rattle.format.specs.Marks.{is_type, '[', left_brace}
use Rattle.format.specs.Tokens.{first_slowest, first_fastest, Token, Kind, kind_number, packed, table, Forest, size}
use Rattle.format.specs.Rows.{row_at, rows_in}
use Rattle.format.specs.Addresses.{is_a, is_packed, is_table, packed_slot, table_slot}
use Rattle.format.specs.Read.{read}
use Rattle.laws.specs.Places.{At, IsCut}
use Rattle.storage.specs.Places.{Filled}
use Rattle.storage.specs.Addresses.{Address, in_packed, in_table, call}
use Rattle.storage.specs.Verdicts.{Verdict, wrong_rows}
use Rattle.storage.proofs.KindNumbers.{kind_case}
use Rattle.storage.proofs.Places.{at_size, at_exists, at_same, rowed_at, filled_rows, filled_after}
use Rattle.storage.proofs.Naming.{names_packed, names_table}
use Rattle.storage.proofs.Stored.{Stored, as_packed, TableOf, table_of, as_table}
use Rattle.storage.proofs.Walks.{isnt_a, along_unfit}
use Rattle.storage.proofs.MessageSlots.{is_stored, payload_in_message}
use Rattle.storage.proofs.Calls as Calls

module _ (m : List ℕ) (rows_lent : ℕ) (grammar : Grammar) (f : Forest) (accepted : read m rows_lent grammar ≡ done f) where
  stored : {row : ℕ} {t : Token} {below : Forest} → At 0 f row t below → IsCut t.kind → Stored t below
  stored x c = is_stored m rows_lent grammar f accepted x c

  fits : {row : ℕ} {t : Token} {below : Forest} → At 0 f row t below → IsCut t.kind → t.payload + t.extent ≤ length m
  fits x c = payload_in_message m rows_lent grammar f accepted x c

  module _ (ws : List ℕ) (filled : Filled f ws) where
    -- a row has a token of this kind, or its words don't say that it has
    row_case : (k : Kind) (marks : ℕ → Bool) (highest row : ℕ) → eqb 0 (kind_number k) ≡ false
        → ((t : Token) × (below : Forest) × At 0 f row t below × (t.kind ≡ k))
        ⊎ (((t : Token) (below : Forest) → At 0 f row t below → t.kind ≡ k → ⊥) × (is_a k marks highest (row_at ws row) ≡ false))
    unfolding is_a
    row_case k marks highest row e = elim (dec_lt row (size f)) [
      | no h ↦ inr (λ t v x q. let w = at_size x in omega arith, rw (filled_after f ws filled row (omega arith), e))
      | yes h ↦ (
          let x = at_exists f 0 row (omega arith) (omega arith) in
          elim (kind_case x.0.kind k) [
            | inl q ↦ inl (x.0, x.1, x.2, q)
            | inr c ↦ inr (λ t v y q. c (ap (λ z. z.kind) (at_same x.2 y).0 ∙ q), rw (rowed_at (filled_rows f ws filled) x.2).1 (isnt_a k marks highest x.0 _ _ c))
          ])
    ]

    -- ---- a packed row

    -- a row that is no packed array's
    packed_unfit : (row : ℕ) (is : List ℕ) → is_packed (row_at ws row) ≡ false → packed_slot ws (length m) row is ≡ fault rows_dont_fit 0
    unfolding packed_slot ◌>>=◌
    packed_unfit row is e = rw (along_unfit ws is_packed (rows_in ws) row e)

    -- one that is
    packed_at : (row : ℕ) (is : List ℕ) (t : Token) (below : Forest) → At 0 f row t below → t.kind ≡ packed → Verdict f (in_packed row is) (packed_slot ws (length m) row is)
    packed_at row is t below x k = Calls.packed_verdict f ws filled (length m) row t below x (as_packed (stored x (inl k)) k) (fits x (inl k)) is

    -- any row
    packed_verdict : (row : ℕ) (is : List ℕ) → Verdict f (in_packed row is) (packed_slot ws (length m) row is)
    unfolding is_packed
    packed_verdict row is = elim (row_case packed is_type first_fastest row refl) [
      | inl x ↦ packed_at row is x.0 x.1 x.2 x.3
      | inr c ↦ rw (packed_unfit row is c.1) (wrong_rows (λ r t v n. let x = names_packed n in c.0 t v x.1 x.2))
    ]

    -- ---- a table row

    -- a row that is no table's
    table_unfit : (row leaf_row : ℕ) (is : List ℕ) → is_table (row_at ws row) ≡ false → table_slot ws (length m) row leaf_row is ≡ fault rows_dont_fit 0
    unfolding table_slot ◌>>=◌
    table_unfit row leaf_row is e = rw (along_unfit ws is_table (rows_in ws) row e)

    -- one that is
    table_at : (row leaf_row : ℕ) (is : List ℕ) (t : Token) (below : Forest) → At 0 f row t below → t.kind ≡ table → Verdict f (in_table row leaf_row is) (table_slot ws (length m) row leaf_row is)
    table_at row leaf_row is t below x k = go (as_table (stored x (inr k)) k) x
      where
        go : {below : Forest} → TableOf t below → At 0 f row t below → Verdict f (in_table row leaf_row is) (table_slot ws (length m) row leaf_row is)
        go (table_of {s = s} {members = members} {dims = dims} ok) x =
            Calls.table_verdict f ws filled (length m) row t s members dims x ok (fits x (inr k)) leaf_row is

    -- any row
    table_verdict : (row leaf_row : ℕ) (is : List ℕ) → Verdict f (in_table row leaf_row is) (table_slot ws (length m) row leaf_row is)
    unfolding is_table
    table_verdict row leaf_row is = elim (row_case table (among ('[' ∷ left_brace ∷ [])) first_slowest row refl) [
      | inl x ↦ table_at row leaf_row is x.0 x.1 x.2 x.3
      | inr c ↦ rw (table_unfit row leaf_row is c.1) (wrong_rows (λ r t v n. let x = names_table n in c.0 t v x.0 x.1))
    ]

    -- every address
    pub verdict : (a : Address) → Verdict f a (call ws (length m) a)
    unfolding call
    verdict (in_packed row is) = packed_verdict row is
    verdict (in_table row leaf_row is) = table_verdict row leaf_row is
