-- Tables in house form are read again as the same. Assumes nothing.
use Prim.Native.Nat.{ℕ, suc, ◌+◌, ◌*◌, ◌≤◌}
use mathlib.Core.Path.{◌≡◌, refl, subst}
use mathlib.Core.Bool.{false}
use mathlib.Core.List.{List, [], ◌∷◌, ◌++◌, append_assoc}
use native.Mathlib.Omega.{arith}
use native.Mathlib.Nat.{mul-le-mul_left}
use borrow.Author.Tests.{le-leb}
use Rattle.format.specs.Grammars.{Grammar}
use Rattle.format.specs.Conditions.{among}
use Rattle.format.specs.Limits.{limit, record_limit, schema_levels}
use Rattle.format.specs.Refusals.{over_limit}
use Rattle.format.specs.Marks.{Opening, brace, opens, '#', '$'}
use Rattle.format.specs.Tokens.{table as kind_of_table, Forest, size, ◌⊕◌, below_first}
use Rattle.format.specs.Records.{total_width, placed}
use Rattle.format.specs.Indexes.{below}
use Rattle.format.specs.Storage.{member_row, records}
use Rattle.format.specs.Bytes.{bytes}
use Rattle.format.specs.HouseForm.{Written, shape, table_form, payload_of, token, house}
use Rattle.format.specs.SameMeaning.{has_bytes}
use Rattle.format.specs.Dimensions.{Shape}
use Rattle.format.specs.Schemas as Schemas
use Rattle.format.specs.Containers as Containers
use Rattle.format.specs.Read as Read
use Rattle.format.proofs.Forests.{size_append}
use Rattle.laws.proofs.Schemas.{Group, group_one}
use Rattle.laws.proofs.Order.{size-placed}
use Rattle.laws.proofs.Slots.{Inside, inside_widen, records_inside, length_count, members_measured, below_measured, below_narrower}
use Rattle.meaning.proofs.Same.{same_size}
use Rattle.meaning.proofs.Known.{Succeeds, succeeds, after, guard_known, taken, From, from_past, byte_known, one_of_known, row_known}
use Rattle.meaning.proofs.Accepted.{one, group, Accepted, Filled}
use Rattle.meaning.proofs.Layouts.{Schematic, members_schematic, same_width, records_cut, schematic_below, same_below, same_placed, schematic_same, all_placed, schema_written}
use Rattle.meaning.proofs.Chains.{closers, CopyAt, copy_at, copy_append, Reading, alone_reading}
use Rattle.meaning.proofs.Scalars.{copied_same}
use Rattle.meaning.proofs.Lists.{enter, opens_begins}
use Rattle.meaning.proofs.Vectors.{Shapes}
use Rattle.meaning.proofs.Payloads.{filled_known}
use Rattle.meaning.proofs.Schemas.{group_begins}

-- the slots of a table lie in its payload
slots_inside : {s : Forest} (o : Opening) (row n : ℕ) → Group brace s → Inside (n * total_width s) (records o row (below_first s) (below n))
slots_inside {s} o row n g =
    let t = members_measured (group_one g false) in
    let k : n * total_width (below_first s) ≤ n * total_width s = mul-le-mul_left n (below_narrower t) in
    let i : Inside (n * total_width (below_first s)) (records o row (below_first s) (below n)) =
    rw (length_count 0 n) at (records_inside o row (below_measured t) (below n)) in
    inside_widen (n * total_width s) k i

-- a table as it is written, and what stands after it
regroup : (mark : ℕ) (schema count payload l : List ℕ) → table_form mark schema count payload ++ l ≡ mark ∷ '$' ∷ (schema ++ '#' ∷ (count ++ (payload ++ l)))
unfolding table_form
regroup mark schema count payload l = simp append_assoc

module _ (m h : List ℕ) (rows_lent : ℕ) (grammar : Grammar) (most : ℕ) (lent : most ≤ rows_lent) (few : most ≤ limit) where
  -- the header and the payload of a table
  table_reads : (levels : ℕ) (o : Opening) (at₀ start row₀ : ℕ) {s : Forest} (n : Shape) → Accepted m grammar one (group schema_levels brace) s → Group brace s
      → Reading m h most closers (Schemas.nested h rows_lent schema_levels brace) s → total_width s ≤ record_limit
      → n.many ≤ limit → Shapes m h rows_lent most lent false n.order n.many n.dimensions
      → Filled m start (n.many * total_width s) (records o (member_row row₀) (below_first s) (below n.many))
      → (at row : ℕ) (l : List ℕ)
      → From h at (opens o ∷ '$' ∷ (house m s ++ '#' ∷ (shape n.order n.many (house m n.dimensions) ++ (bytes m start (n.many * total_width s) ++ l))))
      → row + suc (size s + size n.dimensions) ≤ most
      → Succeeds (λ r. CopyAt m h at (Containers.stored kind_of_table (opens o) at₀ start (n.many * total_width s) n (placed 0 s ⊕ n.dimensions)) r.0 × From h r.1 l)
      (Read.value_by h rows_lent grammar (Read.nested h rows_lent grammar (suc levels)) at row)
  unfolding Containers.container_by Containers.typed Containers.table Schemas.table_schema Containers.stored has_bytes among opens
  table_reads levels o at₀ start row₀ {s} n a g p v u q c at row l e z =
      let extent = n.many * total_width s in
      let e₂ = from_past h (opens o ∷ '$' ∷ []) e in
      let d : Schematic s = members_schematic (group_one g false) in
      enter m h rows_lent grammar most lent few levels o at row _ e (row_known h rows_lent at row (omega arith) (byte_known h _ (from_past h (opens o ∷ []) e) (taken _ _ refl
      (byte_known h _ (subst (λ b. From h (at + 2) (b ++ '#' ∷ (shape n.order n.many (house m n.dimensions) ++ (bytes m start extent ++ l)))) (group_begins m a).1 e₂) (taken _ _ refl
      (after (p.reads (at + 2) (row + 1) _ e₂ (omega arith)) λ r hr.
      one_of_known h _ _ hr.1 refl
      (after (q (r.1 + 1) (row + 1 + size r.0) _ (from_past h ('#' ∷ []) hr.1) (omega (arith, same_size m h hr.0.same))) λ f hf.
      rw (hf.0, hf.1, same_width m h d hr.0.same)
      (guard_known _ over_limit at (le-leb n.many limit u) (guard_known _ over_limit at (le-leb (total_width s) record_limit v)
      (filled_known m h start extent f.1 l c (slots_inside o (member_row row₀) n.many g)
      (records_cut m h o (schematic_below m h d) (same_below m h hr.0.same) (member_row row₀) (member_row row) (below n.many)) hf.3 λ w x.
      let under = copy_append (record { same = same_placed m h d hr.0.same 0; stand = all_placed h (schematic_same m h d hr.0.same) hr.0.stand 0 }) hf.2 in
      succeeds (copy_at refl (copied_same m h kind_of_table (opens o) at₀ at start f.1 extent n.many n.order refl x under.same) under.stand, w)))))))))))

  pub table_again : (levels : ℕ) (o : Opening) (at₀ start row₀ : ℕ) {s : Forest} (n : Shape) → Accepted m grammar one (group schema_levels brace) s → Group brace s
      → Reading m h most closers (Schemas.nested h rows_lent schema_levels brace) s → total_width s ≤ record_limit
      → n.many ≤ limit → Shapes m h rows_lent most lent false n.order n.many n.dimensions
      → Filled m start (n.many * total_width s) (records o (member_row row₀) (below_first s) (below n.many))
      → Reading m h most closers (Read.value_by h rows_lent grammar (Read.nested h rows_lent grammar (suc levels)))
      (Containers.stored kind_of_table (opens o) at₀ start (n.many * total_width s) n (placed 0 s ⊕ n.dimensions))
  unfolding Containers.stored token payload_of table_form size
  table_again levels o at₀ start row₀ {s} n a g p v u q c =
      alone_reading m h most (record { head = opens o; tail = _; split = refl; fits = opens_begins m h rows_lent grammar most lent few o }) λ at row l e z.
      let payload = bytes m start (n.many * total_width s) in
      let e₀ : From h at (table_form (opens o) (house m s) (shape n.order n.many (house m n.dimensions)) payload ++ l) =
      subst (λ (w : Written). From h at (table_form (opens o) w.first (shape n.order n.many w.rest) payload ++ l)) (schema_written m n.dimensions g) e in
      table_reads levels o at₀ start row₀ n a g p v u q c at row l (subst (From h at) (regroup (opens o) (house m s) (shape n.order n.many (house m n.dimensions)) payload l) e₀)
      (omega (arith, size_append (placed 0 s) n.dimensions, size-placed 0 s))
