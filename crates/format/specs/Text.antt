-- Text is UTF-8 by shape.
use Rattle.std.specs.Prelude.{ℕ, zero, suc, Bool, true, false, ◌&&◌, List, [], ◌∷◌, leb}
use Rattle.format.specs.Conditions.{when◌then◌else◌, between}

-- `owed` bytes 80-BF come first; then a lead byte 00-7F, C0-DF, E0-EF or F0-F7 owes 0, 1, 2 or 3
unfoldable pub shaped : ℕ → List ℕ → Bool
shaped zero [] = true
shaped (suc owed) [] = false
shaped zero (b ∷ bs) =
    when leb b 0x7F then shaped 0 bs else
    when between 0xC0 0xDF b then shaped 1 bs else
    when between 0xE0 0xEF b then shaped 2 bs else
    when between 0xF0 0xF7 b then shaped 3 bs else false
shaped (suc owed) (b ∷ bs) = between 0x80 0xBF b && shaped owed bs

unfoldable pub is_text : List ℕ → Bool
is_text = shaped 0
