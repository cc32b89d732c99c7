-- What reading gives where there is no table, and where there is one. Assumes nothing.
use Prim.Native.Nat.{ℕ, zero, suc, ◌+◌}
use mathlib.Core.Path.{◌≡◌, refl}
use mathlib.Core.Bool.{true, false}
use mathlib.Core.List.{List, []}
use Rattle.format.specs.Conditions.{when◌then◌else◌}
use Rattle.format.specs.Outcome.{Parsed}
use Rattle.format.specs.Marks.{Opening, bracket, brace}
use Rattle.format.specs.Tokens.{Kind, Token, table as kind_of_table, is_kind, Forest, none, node, alone, size, ◌⊕◌}
use Rattle.format.specs.Sequences.{Reader, ◌⨾◌, repeat, spaced}
use Rattle.format.specs.Scalars.{scalar, unmarked, text, key}
use Rattle.format.specs.Extensions.{extension}
use Rattle.format.specs.Grammars.{Grammar}
use Rattle.format.specs.Containers.{container_kind, container, stored, packed, table, counted, typed_as, items}
use Rattle.format.specs.Read.{value_by}
use Rattle.format.specs.Panel.{tables}
use Rattle.laws.proofs.Holds.{Holds, refused, holds, bind_law, then_law, if_law, seq_law, any_law, weaken}
use Rattle.laws.proofs.Schemas.{Gives}
use Rattle.laws.proofs.Counts.{Dimensioned, no_dimension, one_dimension, Shaped, plain, vector, shape_gives}

-- no token is a table
pub data Tableless : Forest → Type 0 where
  empty : Tableless none
  token : {t : Token} {below after : Forest} → is_kind kind_of_table t.kind ≡ false → Tableless below → Tableless after → Tableless (node t below after)

pub no_tables : {f : Forest} → Tableless f → (n : ℕ) → tables n f ≡ []
unfolding tables when◌then◌else◌
no_tables empty n = refl
no_tables (token {below = below} e u r) n = rw (e, no_tables u (suc n), no_tables r (suc n + size below))

pub append_tableless : {f g : Forest} → Tableless f → Tableless g → Tableless (f ⊕ g)
unfolding ◌⊕◌
append_tableless empty q = q
append_tableless (token e u r) q = token e u (append_tableless r q)

alone_tableless : (t : Token) → is_kind kind_of_table t.kind ≡ false → Tableless (alone t)
alone_tableless t e = token e empty empty

dimensions_tableless : {f : Forest} → Dimensioned f → Tableless f
unfolding is_kind
dimensions_tableless no_dimension = empty
dimensions_tableless (one_dimension {t = t} i r) = token {t = t} (rw i.kind_is) empty (dimensions_tableless r)

pub shaped_tableless : {highest order n : ℕ} {f : Forest} → Shaped highest order n f → Tableless f
shaped_tableless plain = empty
shaped_tableless (vector _ _ v) = dimensions_tableless v.dimensioned

-- an array's or object's token isn't a table
pub container_no_table : (o : Opening) → is_kind kind_of_table (container_kind o) ≡ false
unfolding container_kind is_kind
container_no_table bracket = refl
container_no_table brace = refl

-- one table, which begins here
pub data OneTable (at : ℕ) : Forest → Type 0 where
  one_table : {t : Token} {under : Forest} → is_kind kind_of_table t.kind ≡ true → t.first ≡ at → OneTable at (node t under none)

-- ---- readers

-- what holds where there is no table, and of one forest and then another
pub record Kept (P : Forest → Type 0) : Type 0 where
  pub tableless : {f : Forest} → Tableless f → P f
  pub append : {f g : Forest} → P f → P g → P (f ⊕ g)

pub tableless_kept : Kept Tableless
tableless_kept = record { tableless = λ h. h; append = append_tableless }

module _ {P : Forest → Type 0} (kept : Kept P) where
  pub seq_kept : (one other : Reader) → Gives P one → Gives P other → Gives P (one ⨾ other)
  seq_kept one other p q at row = seq_law one other at row (p at row) λ f hf. weaken (λ g hg. kept.append hf hg) (q _ _)

  pub repeat_kept : (n : ℕ) (item : Reader) → Gives P item → Gives P (repeat n item)
  unfolding repeat
  repeat_kept zero item p at row = holds (kept.tableless empty)
  repeat_kept (suc n) item p at row = seq_kept item (repeat n item) p (repeat_kept n item p) at row

module _ (m : List ℕ) (lent : ℕ) where
  scalar_tableless : (mark start : ℕ) → Gives Tableless (scalar m lent mark start)
  unfolding scalar is_kind
  scalar_tableless mark start at row = then_law (any_law _) λ _. bind_law (any_law _) λ _ _. holds (alone_tableless _ refl)

  unmarked_tableless : (mark : ℕ) → Gives Tableless (unmarked m lent mark)
  unfolding unmarked
  unmarked_tableless mark at row = bind_law (any_law _) λ _ _. scalar_tableless mark at at row

  text_tableless : (kind : Kind) (mark : ℕ) → is_kind kind_of_table kind ≡ false → Gives Tableless (text m lent kind mark)
  unfolding text
  text_tableless kind mark e at row = then_law (any_law _) λ _. bind_law (any_law _) λ _ _. bind_law (any_law _) λ _ _. holds (alone_tableless _ e)

  key_tableless : Gives Tableless (key m lent)
  unfolding key is_kind
  key_tableless at row = bind_law (any_law _) λ _ _. then_law (any_law _) λ _. bind_law (any_law _) λ _ _. bind_law (any_law _) λ _ _. holds (alone_tableless _ refl)

  extension_tableless : Gives Tableless (extension m lent)
  unfolding extension is_kind
  extension_tableless at row = then_law (any_law _) λ _. bind_law (any_law _) λ _ _. bind_law (any_law _) λ _ _. then_law (any_law _) λ _.
      bind_law (any_law _) λ _ _. holds (alone_tableless _ refl)

  packed_tableless : (mark from : ℕ) → Gives Tableless (packed m lent mark from)
  unfolding packed stored is_kind
  packed_tableless mark from at row = bind_law (shape_gives m lent true from (row + 1)) λ n s.
      then_law (any_law _) λ _. then_law (any_law _) λ _. then_law (any_law _) λ _. holds (token refl (shaped_tableless s) empty)

  object_tableless : (item : Reader) (from : ℕ) → Gives Tableless item → Gives Tableless (counted m lent brace item from)
  unfolding counted container
  object_tableless item from p at row = bind_law (any_law _) λ n _. bind_law (repeat_kept tableless_kept n.0 item p _ _) λ r s.
      holds (token (container_no_table brace) s empty)

  -- a packed array or a typed object
  pub typed_as_tableless : (o : Opening) (type : ℕ) → Gives Tableless (typed_as m lent o type)
  unfolding typed_as
  typed_as_tableless bracket type at row = packed_tableless type (at + 4) at row
  typed_as_tableless brace type at row =
      object_tableless _ (at + 4) (seq_kept tableless_kept (key m lent) (unmarked m lent type) key_tableless (unmarked_tableless type)) at row

  -- a member, if it holds of what nests in it
  module _ (grammar : Grammar) {P : Forest → Type 0} (kept : Kept P) (nested : Opening → Reader) (p : (o : Opening) → Gives P (nested o)) where
    pub plainly : {o : Parsed Forest} → Holds (Unit {0}) (λ r. Tableless r.0) o → Holds (Unit {0}) (λ r. P r.0) o
    plainly h = weaken (λ r q. kept.tableless q) h

    pub value_kept : Gives P (value_by m lent grammar nested)
    unfolding value_by is_kind
    value_kept at row = bind_law (any_law _) λ mark _.
        if_law _ (λ _. plainly (scalar_tableless mark (at + 1) at row)) λ _.
        if_law _ (λ _. plainly (text_tableless _ _ refl at row)) λ _.
        if_law _ (λ _. plainly (text_tableless _ _ refl at row)) λ _.
        if_law _ (λ _. p bracket at row) λ _.
        if_law _ (λ _. p brace at row) λ _.
        if_law _ (λ _. plainly (extension_tableless at row)) λ _. refused λ _. tt

    pub items_kept : (o : Opening) → Gives P (items m lent o (value_by m lent grammar nested))
    unfolding items spaced
    items_kept bracket at row = value_kept at row
    items_kept brace at row =
        seq_kept kept (key m lent) (spaced m (value_by m lent grammar nested)) (λ next below. plainly (key_tableless next below)) (λ next below. value_kept _ below) at row

  pub table_gives : (o : Opening) (at row : ℕ) → Holds (Unit {0}) (λ r. OneTable at r.0) (table m lent o at row)
  unfolding table stored is_kind
  table_gives o at row = bind_law (any_law _) λ _ _. bind_law (any_law _) λ _ _. bind_law (any_law _) λ _ _.
      then_law (any_law _) λ _. then_law (any_law _) λ _. then_law (any_law _) λ _. then_law (any_law _) λ _. holds (one_table refl refl)
