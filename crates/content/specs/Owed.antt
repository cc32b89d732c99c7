-- Text by shape, seen from each byte and the three before it.
use Rattle.std.specs.Prelude.{ℕ, Bool, ◌&&◌, ◌||◌, leb}
use Rattle.std.specs.Bool.{beq}
use Rattle.format.specs.Conditions.{between}

-- after the bytes a, b and c a byte 80-BF is owed
unfoldable pub is_owed : ℕ → ℕ → ℕ → Bool
is_owed a b c = (leb 0xC0 c || leb 0xE0 b) || leb 0xF0 a

-- after them x can stand: 80-BF where one is owed, 00-7F or C0-F7 where none is
unfoldable pub can_stand : ℕ → ℕ → ℕ → ℕ → Bool
can_stand a b c x = leb x 0xF7 && beq (is_owed a b c) (between 0x80 0xBF x)
