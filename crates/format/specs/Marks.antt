-- The marks, and the width that goes with each. A mark is a byte: the code of its letter.
use Rattle.std.specs.Prelude.{ℕ, Bool, true, false, ◌||◌, List, [], ◌∷◌, ◌++◌, ltb, eqb}
use Rattle.format.specs.Conditions.{when◌then◌else◌, among}

abbrev pub 'B' : ℕ
'B' = 0x42

abbrev pub 'C' : ℕ
'C' = 0x43

abbrev pub 'D' : ℕ
'D' = 0x44

abbrev pub 'E' : ℕ
'E' = 0x45

abbrev pub 'F' : ℕ
'F' = 0x46

abbrev pub 'H' : ℕ
'H' = 0x48

abbrev pub 'I' : ℕ
'I' = 0x49

abbrev pub 'L' : ℕ
'L' = 0x4C

abbrev pub 'M' : ℕ
'M' = 0x4D

abbrev pub 'N' : ℕ
'N' = 0x4E

abbrev pub 'S' : ℕ
'S' = 0x53

abbrev pub 'T' : ℕ
'T' = 0x54

abbrev pub 'U' : ℕ
'U' = 0x55

abbrev pub 'Z' : ℕ
'Z' = 0x5A

abbrev pub 'd' : ℕ
'd' = 0x64

abbrev pub 'h' : ℕ
'h' = 0x68

abbrev pub 'i' : ℕ
'i' = 0x69

abbrev pub 'l' : ℕ
'l' = 0x6C

abbrev pub 'm' : ℕ
'm' = 0x6D

abbrev pub 'u' : ℕ
'u' = 0x75

abbrev pub '#' : ℕ
'#' = 0x23

abbrev pub '$' : ℕ
'$' = 0x24

abbrev pub '[' : ℕ
'[' = 0x5B

abbrev pub ']' : ℕ
']' = 0x5D

-- the braces, which can't stand in a name
abbrev pub left_brace : ℕ
left_brace = 0x7B

abbrev pub right_brace : ℕ
right_brace = 0x7D

-- what a container opens with: `[` or the left brace
pub data Opening : Type 0 where
  bracket brace : Opening

-- the opening that the code's flag stands for
abbrev pub opening_of : Bool → Opening
opening_of true = brace
opening_of false = bracket

unfoldable pub opens : Opening → ℕ
opens bracket = '['
opens brace = left_brace

unfoldable pub closes : Opening → ℕ
closes bracket = ']'
closes brace = right_brace

-- the marks of an integer record
unfoldable pub integers : List ℕ
integers = 'i' ∷ 'U' ∷ 'I' ∷ 'u' ∷ 'l' ∷ 'm' ∷ 'L' ∷ 'M' ∷ []

unfoldable pub is_integer : ℕ → Bool
is_integer = among integers

-- those of signed integers
unfoldable pub signed_integers : List ℕ
signed_integers = 'i' ∷ 'I' ∷ 'l' ∷ 'L' ∷ []

unfoldable pub is_signed : ℕ → Bool
is_signed = among signed_integers

-- the thirteen marks that a typed container may have
unfoldable pub types : List ℕ
types = integers ++ 'h' ∷ 'd' ∷ 'D' ∷ 'C' ∷ 'B' ∷ []

unfoldable pub is_type : ℕ → Bool
is_type = among types

-- a scalar's mark: those that carry nothing, and the thirteen
unfoldable pub is_scalar : ℕ → Bool
is_scalar = among ('Z' ∷ 'T' ∷ 'F' ∷ types)

-- a schema leaf that is its mark alone: the thirteen, `T` and `Z`
unfoldable pub is_plain_leaf : ℕ → Bool
is_plain_leaf = among ('T' ∷ 'Z' ∷ types)

-- a schema leaf's mark: these, and `S`, after which an integer stands
unfoldable pub is_leaf : ℕ → Bool
is_leaf mark = is_plain_leaf mark || eqb mark 'S'

-- a boolean's letter
unfoldable pub is_boolean : ℕ → Bool
is_boolean = among ('T' ∷ 'F' ∷ [])

-- the bytes that go with a mark: said here, and used by all
unfoldable pub width : ℕ → ℕ
width mark =
    when among ('i' ∷ 'U' ∷ 'C' ∷ 'B' ∷ []) mark then 1 else
    when among ('I' ∷ 'u' ∷ 'h' ∷ []) mark then 2 else
    when among ('l' ∷ 'm' ∷ 'd' ∷ []) mark then 4 else
    when among ('L' ∷ 'M' ∷ 'D' ∷ []) mark then 8 else 0

-- in a record `T` is 1 byte, and the other marks are as wide as ever
unfoldable pub leaf_width : ℕ → ℕ
leaf_width mark = when eqb mark 'T' then 1 else width mark

-- the mark that a word stands for: 0, which is none, where it is no byte
unfoldable pub letter_of : ℕ → ℕ
letter_of word = when ltb word 256 then word else 0
