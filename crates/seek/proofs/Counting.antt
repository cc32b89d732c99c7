-- The tables that are counted are the rows of kind 8, in their order: a table holds no other. Assumes nothing.
use Prim.Native.Nat.{ℕ, zero, suc, ◌+◌}
use mathlib.Core.Path.{◌≡◌, refl, ◌∙◌}
use mathlib.Core.Bool.{Bool, true, false}
use mathlib.Core.List.{List, [], ◌∷◌, ◌++◌, map, map-append, append_assoc}
use native.Mathlib.Omega.{arith}
use lib.ListN.{length}
use Rattle.format.specs.Conditions.{when◌then◌else◌}
use Rattle.format.specs.Outcome.{done}
use Rattle.format.specs.Marks.{Opening, bracket, brace}
use Rattle.format.specs.Tokens.{Kind, Token, key as kind_of_key, table as kind_of_table, is_kind, Forest, none, node, size, ◌⊕◌}
use Rattle.format.specs.Records.{at_offset, placed}
use Rattle.format.specs.Rows.{Row, Ancestry, outermost, held_by, row_of, rows, all_rows}
use Rattle.format.specs.Sequences.{Reader, until, spaced}
use Rattle.format.specs.Containers.{container, stored, table, counted, plain, typed, container_by, items}
use Rattle.format.specs.Read.{nested, read, read_whole}
use Rattle.format.specs.Grammars.{Grammar}
use Rattle.format.specs.Panel.{tables}
use Rattle.format.proofs.Forests.{length-rows}
use Rattle.laws.proofs.Holds.{Holds, refused, holds, bind_law, then_law, if_law, any_law, weaken, of_done}
use Rattle.laws.proofs.Schemas.{Members, no_more, key, leaf, group, group_kind, Gives, group_one, table_schema_gives}
use Rattle.laws.proofs.Order.{OfSchema, leaf_kind, group_kind_lem, key_kind}
use Rattle.laws.proofs.Counts.{shape_gives}
use Rattle.seek.specs.Tables.{of_kind}
use Rattle.seek.proofs.Tableless.{Tableless, empty, token, append_tableless, shaped_tableless, container_no_table, Kept, seq_kept, repeat_kept, items_kept, value_kept, typed_as_tableless}

group_no_table : (o : Opening) → is_kind kind_of_table (group_kind o) ≡ false
unfolding is_kind
group_no_table bracket = refl
group_no_table brace = refl

-- a schema's tokens when they are given their offsets
placed_tableless : {k due : Bool} {f : Forest} (at : ℕ) → Members k due f → Tableless (placed at f)
unfolding placed at_offset when◌then◌else◌ is_kind
placed_tableless at no_more = empty
placed_tableless at (key {t = t} i r) =
    let e : is_kind kind_of_key t.kind ≡ true = rw i.kind_is key_kind in
    rw e (token {t = t} (rw i.kind_is) empty (placed_tableless at r))
placed_tableless at (leaf {t = t} i r) =
    let s : OfSchema t.kind = rw i.kind_is leaf_kind in
    rw s.not_key (token {t = at_offset at t} (rw i.kind_is) empty (placed_tableless _ r))
placed_tableless at (group o {t = t} i _ k r) =
    let s : OfSchema t.kind = rw i.kind_is (group_kind_lem o) in
    rw s.not_key (token {t = at_offset at t} (rw i.kind_is (group_no_table o)) (placed_tableless at k) (placed_tableless _ r))

-- ---- no table holds a table

pub data Flat : Forest → Type 0 where
  nothing : Flat none
  over : {t : Token} {below after : Forest} → is_kind kind_of_table t.kind ≡ false → Flat below → Flat after → Flat (node t below after)
  a_table : {t : Token} {below after : Forest} → is_kind kind_of_table t.kind ≡ true → Tableless below → Flat after → Flat (node t below after)

tableless_flat : {f : Forest} → Tableless f → Flat f
tableless_flat empty = nothing
tableless_flat (token e u r) = over e (tableless_flat u) (tableless_flat r)

append_flat : {f g : Forest} → Flat f → Flat g → Flat (f ⊕ g)
unfolding ◌⊕◌
append_flat nothing q = q
append_flat (over e u r) q = over e u (append_flat r q)
append_flat (a_table e u r) q = a_table e u (append_flat r q)

flat_kept : Kept Flat
flat_kept = record { tableless = tableless_flat; append = append_flat }

module _ (m : List ℕ) (lent : ℕ) where
  table_flat : (o : Opening) → Gives Flat (table m lent o)
  unfolding table stored is_kind
  table_flat o at row = bind_law (table_schema_gives m lent (at + 2) (row + 1)) λ s hs. bind_law (any_law _) λ _ _. bind_law (shape_gives m lent false (s.1 + 1) _) λ n hn.
      then_law (any_law _) λ _. then_law (any_law _) λ _. then_law (any_law _) λ _. then_law (any_law _) λ _.
      holds (a_table refl (append_tableless (placed_tableless 0 (group_one hs false)) (shaped_tableless hn)) nothing)

  typed_flat : (o : Opening) → Gives Flat (typed m lent o)
  unfolding typed
  typed_flat o at row = bind_law (any_law _) λ type _. if_law _ (λ _. table_flat o at row) λ _.
      then_law (any_law _) λ _. bind_law (any_law _) λ _ _. weaken (λ _ h. tableless_flat h) (typed_as_tableless m lent o type at row)

  until_flat : (fuel : ℕ) (gap : ℕ → ℕ) (closing : ℕ) (item : Reader) → Gives Flat item → Gives Flat (until m fuel gap closing item)
  unfolding until
  until_flat zero gap closing item p at row = refused λ _. tt
  until_flat (suc fuel) gap closing item p at row = bind_law (any_law _) λ _ _. if_law _ (λ _. holds nothing) λ _.
      seq_kept flat_kept item _ p (until_flat fuel gap closing item p) (gap at) row

  container_flat : (value : Reader) → ((o : Opening) → Gives Flat (items m lent o value)) → (o : Opening) → Gives Flat (container_by m lent value o)
  unfolding container_by counted plain container spaced
  container_flat value p o at row = then_law (any_law _) λ _. bind_law (any_law _) λ _ _. if_law _ (λ _. typed_flat o at row) λ _. if_law _
      (λ _. bind_law (any_law _) λ n _. bind_law (repeat_kept flat_kept n.0 _ (λ next below. p o _ below) _ _) λ r h. holds (over (container_no_table o) h nothing))
      (λ _. bind_law (until_flat _ _ _ _ (p o) _ _) λ r h. holds (over (container_no_table o) h nothing))

  module _ (grammar : Grammar) where
    nested_flat : (levels : ℕ) (o : Opening) → Gives Flat (nested m lent grammar levels o)
    unfolding nested
    nested_flat zero o at row = refused λ _. tt
    nested_flat (suc levels) o at row = container_flat _ (items_kept m lent grammar flat_kept _ (nested_flat levels)) o at row

    read_flat : Holds (Unit {0}) Flat (read m lent grammar)
    unfolding read
    read_flat = then_law (any_law _) λ _. bind_law (value_kept m lent grammar flat_kept _ (nested_flat _) _ _) λ r h. then_law (any_law _) λ _. holds h

-- ---- the rows of kind 8

of_kind_append : (kind : Kind) (n : ℕ) (l k : List Row) → of_kind kind n (l ++ k) ≡ of_kind kind n l ++ of_kind kind (n + length l) k
unfolding of_kind
of_kind_append kind n [] k = let e : n + length {A = Row} [] ≡ n = omega arith in rw e
of_kind_append kind n (r ∷ l) k =
    let e : n + length (r ∷ l) ≡ suc n + length l = omega arith in
    simp (of_kind_append kind (suc n) l k, e, append_assoc)

-- those of the rows below a token, and of those after it
rest_of : (n : ℕ) (a b : Ancestry) (below after : Forest)
    → of_kind kind_of_table (suc n) (rows (suc n) a below ++ rows (suc n + size below) b after)
    ≡ of_kind kind_of_table (suc n) (rows (suc n) a below) ++ of_kind kind_of_table (suc n + size below) (rows (suc n + size below) b after)
rest_of n a b below after = of_kind_append kind_of_table (suc n) (rows (suc n) a below) _ ∙ rw (length-rows (suc n) a below)

none_of_kind : {f : Forest} → Tableless f → (n : ℕ) (a : Ancestry) → of_kind kind_of_table n (rows n a f) ≡ []
unfolding rows row_of of_kind is_kind when◌then◌else◌
none_of_kind empty n a = refl
none_of_kind (token {below = below} {after = after} e u r) n a =
    rw (e, rest_of n (held_by n a) a below after, none_of_kind u (suc n) (held_by n a), none_of_kind r (suc n + size below) a)

counted_rows : {f : Forest} → Flat f → (n : ℕ) (a : Ancestry) → map (λ t. t.row) (tables n f) ≡ of_kind kind_of_table n (rows n a f)
unfolding tables rows row_of of_kind is_kind when◌then◌else◌
counted_rows nothing n a = refl
counted_rows (over {below = below} {after = after} e u r) n a =
    rw (e, rest_of n (held_by n a) a below after, ← counted_rows u (suc n) (held_by n a), ← counted_rows r (suc n + size below) a) (map-append (λ t. t.row) (tables (suc n) below) _)
counted_rows (a_table {below = below} {after = after} e u r) n a =
    rw (e, rest_of n (held_by n a) a below after, none_of_kind u (suc n) (held_by n a), ← counted_rows r (suc n + size below) a)

-- The tables of an accepted message are its rows of kind 8, in their order.
pub tables_are_rows : (m : List ℕ) (grammar : Grammar) (f : Forest) → read_whole m grammar ≡ done f → map (λ t. t.row) (tables 0 f) ≡ of_kind kind_of_table 0 (all_rows f)
unfolding read_whole all_rows
tables_are_rows m grammar f e = counted_rows (of_done f (read_flat m (length m) grammar) e) 0 outermost
