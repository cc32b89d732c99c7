-- `value_in_table`: the slot, and then its scalar. Assumes nothing.
use mathlib.Core.Path.{refl}
use Rattle.std.proofs.lemmas.Result.{err_from_is_err_and}
use Rattle.format.specs.Conditions.{when◌then◌else◌}
use Rattle.format.specs.Outcome.{◌>>=◌}
use Rattle.format.specs.Tokens.{is_kind}
use Rattle.format.specs.Values.{value_in_table}
use Rattle.values.specs.Due.{due}
use Rattle.slots.proofs.value.value_in_table.Goals as goal

pub returns-in_err-slot-clause-is : goal.returns-in_err-slot-clause-is
unfolding value_in_table ◌>>=◌
returns-in_err-slot-clause-is c =
    let p = err_from_is_err_and c.from_residual.result c.from_residual.ensures.1 in
    rw (p.1, p.2, ← c.table.ensures, c.in_err-slot.was) refl

pub returns-clause-is : goal.returns-clause-is
unfolding value_in_table due is_kind when◌then◌else◌ ◌>>=◌
returns-clause-is c =
    rw (← c.table.ensures, c.in_ok-slot.was) c.scalar_at.ensures.is
