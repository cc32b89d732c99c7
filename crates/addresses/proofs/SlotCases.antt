-- Slots: an equation for each way through the definitions. Assumes nothing.
use Prim.Native.Nat.{ℕ, ◌+◌, ◌-◌, ◌*◌, ◌^◌, ◌≤◌, ◌<◌}
use mathlib.Core.Path.{◌≡◌, refl, sym, ap, ◌∙◌}
use mathlib.Core.Bool.{Bool, true, false}
use mathlib.Core.List.{List}
use native.Mathlib.Omega.{arith}
use native.Mathlib.Nat.{min-eq_left, min-eq_right}
use lib.ListN.{length}
use lib.Dec.{leb}
use borrow.Author.Tests.{eq-eqb, ne_eqb, le-leb, lt-leb, leb-true, leb-false}
use Rattle.format.specs.Conditions.{when◌then◌else◌}
use Rattle.format.specs.Outcome.{Outcome, fault, done, guard, ◌>>=◌, ◌>>◌}
use Rattle.format.specs.Refusals.{not_there, rows_dont_fit}
use Rattle.format.specs.Marks.{width, '['}
use Rattle.format.specs.Rows.{Row, row_at, rows_in}
use Rattle.format.specs.Indexes.{in_range, number_in}
use Rattle.format.specs.Storage.{member_row}
use Rattle.format.specs.Bytes.{within}
use Rattle.format.specs.Addresses.{Region, child_of, along, is_packed, is_table, is_schema, dimensions, seek, inside, packed_slot, table_slot}
use Rattle.indexes.specs.Sums.{most, capped}
use Rattle.addresses.specs.Slots.{in_record, Placed}

-- ---- inside the message

-- a number that is not capped
uncapped : (n : ℕ) → capped n < most → capped n ≡ n
uncapped n h = go (leb n most) refl
  where
    go : (b : Bool) → leb n most ≡ b → capped n ≡ n
    go true e = min-eq_left (leb-true n most e)
    go false e = let k : most < n = leb-false n most e in let q : capped n ≡ most = min-eq_right (less n k) in absurd (omega arith)
      where
        less : (n : ℕ) → most < n → most ≤ n
        less n h = omega arith

module _ (ws : List ℕ) (size mark start total less wide : ℕ) (small : size < 2 ^ 63) (few : less < 2 ^ 32) (c : start ≡ capped total) where
  pub inside_before : start < less → fault rows_dont_fit 0 ≡ inside ws size mark total less wide
  unfolding inside guard ◌>>◌
  inside_before h =
      let e : capped total ≡ total = uncapped total (omega arith) in
      rw (lt-leb less total (omega arith)) refl

  pub inside_past : less ≤ start → size < start - less + wide → fault rows_dont_fit 0 ≡ inside ws size mark total less wide
  unfolding inside within guard ◌>>◌
  inside_past h k = go (leb total most) refl
    where
      refused : less ≤ total → size < total - less + wide → fault rows_dont_fit 0 ≡ inside ws size mark total less wide
      refused p q = rw (le-leb less total p, lt-leb (total - less + wide) size q) refl

      go : (b : Bool) → leb total most ≡ b → fault rows_dont_fit 0 ≡ inside ws size mark total less wide
      go true e = let q : capped total ≡ total = min-eq_left (leb-true total most e) in refused (omega arith) (omega arith)
      go false e = let q : most < total = leb-false total most e in refused (omega arith) (omega arith)

  pub inside_there : less ≤ start → start - less + wide ≤ size → done (record { mark = mark; first = start - less; wide = wide }) ≡ inside ws size mark total less wide
  unfolding inside within guard ◌>>◌
  inside_there h k =
      let e : capped total ≡ total = uncapped total (omega arith) in
      let s : start ≡ total = c ∙ e in
      rw (s, le-leb less total (omega arith), le-leb (total - less + wide) size (omega arith)) refl

-- ---- the indexes

module _ (ws : List ℕ) (container from : ℕ) (is : List ℕ) where
  pub position_refused : (n : ℕ) → dimensions ws container from ≡ fault n 0 → (dimensions ws container from >>= λ ds. guard (in_range ds is) not_there 0) ≡ fault n 0
  unfolding ◌>>=◌
  position_refused n e = rw e refl

  module _ (ds : List ℕ) (e : dimensions ws container from ≡ done ds) where
    pub position_out : in_range ds is ≡ false → (dimensions ws container from >>= λ ds. guard (in_range ds is) not_there 0) ≡ fault not_there 0
    unfolding ◌>>=◌ guard
    position_out q = rw (e, q) refl

    pub position_at : in_range ds is ≡ true → (r : Row) → r ≡ row_at ws container → (n : ℕ) → n ≡ capped (number_in r.order ds is) → Placed ws container from is n
    position_at q r l n k = record { extents = ds; gathered = e; ranged = q; number = k ∙ ap (λ x. capped (number_in x.order ds is)) l }

-- ---- what comes after the indexes

after_refused : (is : List ℕ) (n : ℕ) (rest : List ℕ → Outcome Region) (o : Outcome (List ℕ)) → (o >>= λ ds. guard (in_range ds is) not_there 0) ≡ fault n 0
    → (o >>= λ ds. guard (in_range ds is) not_there 0 >> rest ds) ≡ fault n 0
unfolding ◌>>=◌ ◌>>◌
after_refused is n rest (fault k p) e = cc
after_refused is n rest (done ds) e = go (guard (in_range ds is) not_there 0) e
  where
    go : (g : Outcome (Unit {0})) → g ≡ fault n 0 → (g >> rest ds) ≡ fault n 0
    go (fault k p) e = cc
    go (done u) e = let z : ◌≡◌ {A = ℕ} 0 1 = cc in absurd (omega arith)

after_placed : (ws : List ℕ) (container from : ℕ) (is : List ℕ) (n : ℕ) (rest : List ℕ → Outcome Region) (p : Placed ws container from is n)
    → (dimensions ws container from >>= λ ds. guard (in_range ds is) not_there 0 >> rest ds) ≡ rest p.extents
unfolding ◌>>=◌ ◌>>◌ guard
after_placed ws container from is n rest p = rw (p.gathered, p.ranged) refl

-- a word is not capped
small : (n : ℕ) → n < 2 ^ 32 → n ≡ capped n
small n h = omega arith

-- ---- a packed row

module _ (ws : List ℕ) (size row : ℕ) (is : List ℕ) where
  pub packed_unfit : (n : ℕ) → along ws is_packed (rows_in ws) row ≡ fault n 0 → fault n 0 ≡ packed_slot ws size row is
  unfolding packed_slot ◌>>=◌
  packed_unfit n e = rw e refl

  module _ (link : ℕ) (e : along ws is_packed (rows_in ws) row ≡ done link) where
    pub packed_refused : (n : ℕ) → (dimensions ws row (row + 1) >>= λ ds. guard (in_range ds is) not_there 0) ≡ fault n 0 → fault n 0 ≡ packed_slot ws size row is
    unfolding packed_slot ◌>>=◌
    packed_refused n q = rw e (sym (after_refused is n _ (dimensions ws row (row + 1)) q))

    pub packed_there : (n : ℕ) (p : Placed ws row (row + 1) is n) → packed_slot ws size row is
        ≡ inside ws size (row_at ws row).mark ((row_at ws row).payload + number_in (row_at ws row).order p.extents is * width (row_at ws row).mark) 0 (width (row_at ws row).mark)
    unfolding packed_slot ◌>>=◌
    packed_there n p = rw e (after_placed ws row (row + 1) is n _ p)

    -- by the code's numbers: the row, its mark's width, and a capped start
    pub packed_at : (n : ℕ) → Placed ws row (row + 1) is n → (p : Row) → p ≡ row_at ws row → p.payload < 2 ^ 32 → (w : ℕ) → w ≡ width p.mark → (start : ℕ)
        → ((place many : ℕ) → p.payload ≡ capped place → n ≡ capped many → start ≡ capped (place + many * w + 0)) → (s : Outcome Region)
        → ((words : List ℕ) (total : ℕ) → start ≡ capped total → s ≡ inside words size p.mark total 0 w) → s ≡ packed_slot ws size row is
    packed_at n k p l h w v start f s g =
        let r = number_in (row_at ws row).order k.extents is in
        let t : p.payload + r * w + 0 ≡ p.payload + r * w = omega arith in
        let q = g ws (p.payload + r * w) (f p.payload r (small p.payload h) k.number ∙ ap capped t) in
        q ∙ rw (v, l) (sym (packed_there n k))

-- ---- a table row and a leaf row

module _ (ws : List ℕ) (size row leaf_row : ℕ) (is : List ℕ) where
  pub table_unfit : (n : ℕ) → along ws is_table (rows_in ws) row ≡ fault n 0 → fault n 0 ≡ table_slot ws size row leaf_row is
  unfolding table_slot ◌>>=◌
  table_unfit n e = rw e refl

  module _ (stop : ℕ) (e : along ws is_table (rows_in ws) row ≡ done stop) where
    pub table_schemaless : (n : ℕ) → along ws (child_of row is_schema) stop (row + 1) ≡ fault n 0 → fault n 0 ≡ table_slot ws size row leaf_row is
    unfolding table_slot ◌>>=◌
    table_schemaless n q = rw (e, q) refl

    module _ (from : ℕ) (q : along ws (child_of row is_schema) stop (row + 1) ≡ done from) where
      pub table_leafless : (n : ℕ) → seek ws leaf_row (length ws) (row + 1) (member_row row) ≡ fault n 0 → fault n 0 ≡ table_slot ws size row leaf_row is
      unfolding table_slot ◌>>=◌
      table_leafless n s = rw (e, q, s) refl

      module _ (row_of_field : ℕ) (s : seek ws leaf_row (length ws) (row + 1) (member_row row) ≡ done row_of_field) where
        pub table_refused : (n : ℕ) → (dimensions ws row from >>= λ ds. guard (in_range ds is) not_there 0) ≡ fault n 0 → fault n 0 ≡ table_slot ws size row leaf_row is
        unfolding table_slot ◌>>=◌
        table_refused n d = rw (e, q, s) (sym (after_refused is n _ (dimensions ws row from) d))

        pub table_there : (n : ℕ) (p : Placed ws row from is n)
            → table_slot ws size row leaf_row is ≡ in_record ws size row leaf_row row_of_field (number_in (row_at ws row).order p.extents is)
        unfolding table_slot in_record ◌>>=◌
        table_there n p = rw (e, q, s) (after_placed ws row from is n _ p)

-- ---- a leaf's slot in a record, by the code's numbers

module _ (ws : List ℕ) (size row leaf_row row_of_field n r : ℕ) (k : n ≡ capped r) (t o : Row) (there : t ≡ row_at ws row) (leaf : o ≡ row_at ws leaf_row)
    (h : t.payload < 2 ^ 32) (start : ℕ) (s : Outcome Region) where
  pub by_rows_at : (q : Row) → q ≡ row_at ws (row + 1) → t.mark ≡ '['
      → ((place many : ℕ) → t.payload ≡ capped place → n ≡ capped many → start ≡ capped (place + many * q.extent + o.payload))
      → ((words : List ℕ) (total : ℕ) → start ≡ capped total → s ≡ inside words size o.mark total 0 o.extent) → s ≡ in_record ws size row leaf_row row_of_field r
  unfolding in_record when◌then◌else◌
  by_rows_at q l b f g =
      g ws (t.payload + r * q.extent + o.payload) (f t.payload r (small t.payload h) k) ∙ rw (← there, ← leaf, ← l, eq-eqb t.mark '[' b) refl

  pub by_columns_at : (f : Row) → f ≡ row_at ws row_of_field → (t.mark ≡ '[' → ⊥) → (column : ℕ) → column ≡ capped (t.payload + capped (t.count * f.payload))
      → ((place many : ℕ) → column ≡ capped place → n ≡ capped many → start ≡ capped (place + many * f.extent + o.payload))
      → ((words : List ℕ) (total : ℕ) → start ≡ capped total → s ≡ inside words size o.mark total f.payload o.extent) → s ≡ in_record ws size row leaf_row row_of_field r
  unfolding in_record when◌then◌else◌
  by_columns_at f l b column e v g =
      let q : column ≡ capped (t.payload + t.count * f.payload) = e ∙ omega arith in
      g ws (t.payload + t.count * f.payload + r * f.extent + o.payload) (v (t.payload + t.count * f.payload) r q k)
      ∙ rw (← there, ← leaf, ← l, ne_eqb t.mark '[' b) refl
