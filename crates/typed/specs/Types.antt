-- What the answer to a container's type stands for, whatever the rows lent and the opening.
use Rattle.std.specs.Prelude.{ℕ, ◌+◌, ◌≤◌, ◌<◌, ◌≡◌, true, List, Result, Ok, Err}
use Rattle.format.specs.Marks.{Opening, is_type}
use Rattle.format.specs.Containers.{table, typed_as, typed}
use Rattle.format.specs.Answers.{refused}
use Rattle.format.specs.declared.refusals.Refused.{Refused}
use Rattle.typed.specs.declared.types.ContainerType.{ContainerType}
use Rattle.typed.specs.declared.types.ContainerType.TheVariants.{Schema, Of}

abbrev pub TypeMeets : Result ContainerType Refused → List ℕ → ℕ → Type 0
TypeMeets (Err r) m at = (lent : ℕ) (o : Opening) (row : ℕ) → typed m lent o at row ≡ refused r
TypeMeets (Ok Schema) m at = (lent : ℕ) (o : Opening) (row : ℕ) → typed m lent o at row ≡ table m lent o at row
TypeMeets (Ok (Of mark)) m at = (lent : ℕ) (o : Opening) (row : ℕ) → typed m lent o at row ≡ typed_as m lent o mark at row

abbrev pub TypeWithin : Result ContainerType Refused → ℕ → ℕ → Type 0
TypeWithin (Err r) at end = Unit {0}
TypeWithin (Ok Schema) at end = at + 2 < end
TypeWithin (Ok (Of mark)) at end = (at + 4 ≤ end) × (is_type mark ≡ true)
