-- The step of a walk over what is read whole, and over a table. Assumes nothing.
use Prim.Native.Nat.{ℕ, ◌+◌, ◌-◌, ◌<◌}
use mathlib.Core.Path.{◌≡◌, refl, sym, ◌∙◌}
use mathlib.Core.List.{List}
use native.Mathlib.Omega.{arith}
use lib.ListN.{length}
use Rattle.format.specs.Conditions.{when◌then◌else◌}
use Rattle.format.specs.Outcome.{Parsed, done}
use Rattle.format.specs.Marks.{Opening}
use Rattle.format.specs.Tokens.{Forest}
use Rattle.format.specs.Rows.{Ancestry}
use Rattle.format.specs.Containers.{table, typed_as}
use Rattle.format.specs.Panel.{tables, pick}
use Rattle.laws.proofs.Holds.{of_done}
use Rattle.tokens.specs.Answers.{Laid}
use Rattle.std.specs.Prelude.{Ok}
use Rattle.tokens.specs.declared.End.{End}
use Rattle.seek.specs.Tables.{Found}
use Rattle.seek.specs.Walks.{Walks}
use Rattle.seek.proofs.Tableless.{OneTable, one_table, table_gives, no_tables, typed_as_tableless}
use Rattle.seek.proofs.Back.{parts}

-- what was read whole is passed, if so many tables are in it
pub pass_whole : (e : End) (m : List ℕ) (row k left left' : ℕ) (o : Parsed Forest) (ancestry : Ancestry) (before after : List ℕ)
    → ((f : Forest) (next : ℕ) → o ≡ done (f, next) → left ≡ length (tables row f) + left')
    → Laid o row k ancestry before after e.at e.row → Walks (Ok (record { at = e.at; row = e.row; left = left' })) m row left o
pass_whole e m row k left left' o ancestry before after c l f next h =
    let q = parts (sym l.read ∙ h) in
    record { ended = q.1; took = rw q.0 at l.took; fewer = c f next h }

module _ (m : List ℕ) (opening : Opening) (at row : ℕ) where
  one_table_lem : (f : Forest) → OneTable at f → length (tables row f) ≡ 1
  unfolding tables when◌then◌else◌
  one_table_lem f (one_table e h) = rw e

  pub table_counts : (left : ℕ) → 0 < left → (f : Forest) (next : ℕ) → table m (length m) opening at row ≡ done (f, next) → left ≡ length (tables row f) + (left - 1)
  table_counts left h f next e = let k = one_table_lem f (of_done (f, next) (table_gives m (length m) opening at row) e) in omega arith

  -- the table sought
  table_here : (f : Forest) (next : ℕ) → OneTable at f → table m (length m) opening at row ≡ done (f, next) → Found m (tables row f) 0 opening at row
  unfolding tables when◌then◌else◌ pick
  table_here f next (one_table {t = t} {under = under} e h) q =
      record { table = record { row = row; token = t; under = under }; picked = rw e; begins = h; stands = refl; end = next; read = q }

  pub table_found : (left : ℕ) → left ≡ 0 → (f : Forest) (next : ℕ) → table m (length m) opening at row ≡ done (f, next) → Found m (tables row f) left opening at row
  table_found left z f next e = rw z (table_here f next (of_done (f, next) (table_gives m (length m) opening at row) e) e)

-- a packed array or a typed object
pub typed_counts : (m : List ℕ) (opening : Opening) (type at row left : ℕ) (f : Forest) (next : ℕ) → typed_as m (length m) opening type at row ≡ done (f, next)
    → left ≡ length (tables row f) + left
typed_counts m opening type at row left f next e =
    let k = no_tables (of_done (f, next) (typed_as_tableless m (length m) opening type at row) e) row in rw k (omega arith)
