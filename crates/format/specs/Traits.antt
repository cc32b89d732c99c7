-- What the code keeps of a mark, by the definitions of `Marks`.
use Rattle.std.specs.Prelude.{ℕ}
use Rattle.format.specs.Marks.{is_integer, is_signed, is_type, is_scalar, width}
use Rattle.format.specs.declared.marks.Traits.{Traits}

unfoldable pub traits_of : ℕ → Traits
traits_of mark = record { width = width mark; integer = is_integer mark; signed = is_signed mark; typed = is_type mark; scalar = is_scalar mark }
