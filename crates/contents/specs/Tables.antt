-- A table whose schema was read, and whose payload is all there; and a walk over one of its fields.
use Rattle.std.specs.Prelude.{ℕ, ◌+◌, ◌*◌, ◌≤◌, min, ◌≡◌, List, length}
use Rattle.format.specs.Outcome.{done}
use Rattle.format.specs.Limits.{limit, record_limit}
use Rattle.format.specs.Tokens.{Forest}
use Rattle.format.specs.Records.{total_width}
use Rattle.format.specs.Schemas.{table_schema, kind_by, nested}
use Rattle.columns.specs.Least.{in_fields}
use Rattle.columns.specs.declared.Walk.{Walk}

-- the schema s, read where it begins with so many rows lent; so many records of so many bytes from `start` on
pub record TableAt (m : List ℕ) (schema wide count start lent row next : ℕ) (s : Forest) : Type 0 where
  pub reads : table_schema m lent schema row ≡ done (s, next)
  pub width_is : total_width s ≡ wide
  pub narrow : wide ≤ record_limit
  pub few : count ≤ limit
  pub short : length m ≤ limit
  pub inside : start + count * wide ≤ length m

-- values of a field end to end, inside the message
pub record FieldFits (m : List ℕ) (n place : ℕ) (f : Forest) : Type 0 where
  pub narrow : total_width f ≤ record_limit
  pub few : n ≤ limit
  pub short : length m ≤ limit
  pub inside : place + n * total_width f ≤ length m

-- a walk over a field: the place after it, the place after its values, and the least place of a wrong one
pub record FieldOver (m : List ℕ) (n place best : ℕ) (f : Forest) (next : ℕ) (w : Walk) : Type 0 where
  pub ended : w.next ≡ next
  pub onward : w.place ≡ place + n * total_width f
  pub lowest : w.best ≡ min best (in_fields m n f place)

abbrev pub FieldWalks : List ℕ → ℕ → ℕ → ℕ → ℕ → Walk → Type 0
FieldWalks m at n place best w =
    (lent row next : ℕ) (f : Forest) → row ≤ lent → kind_by m lent (nested m lent 7) at row ≡ done (f, next) → FieldFits m n place f → FieldOver m n place best f next w
