-- The tokens of a message, as a forest: reading gives it, and `Rows` lays it out.
use Rattle.std.specs.Prelude.{ℕ, suc, ◌+◌, Bool, List, [], ◌∷◌, eqb}
use Rattle.format.specs.Conditions.{when◌then◌else◌}

-- the kinds of a token, and the number that each has in the rows
pub data Kind : Type 0 where
  scalar text high_precision key array object packed table leaf schema_record fixed_array dimension extension : Kind

abbrev pub kind_number : Kind → ℕ
kind_number scalar = 1
kind_number text = 2
kind_number high_precision = 3
kind_number key = 4
kind_number array = 5
kind_number object = 6
kind_number packed = 7
kind_number table = 8
kind_number leaf = 9
kind_number schema_record = 10
kind_number fixed_array = 11
kind_number dimension = 12
kind_number extension = 13

-- a token: its kind, its mark, its first byte, its first payload byte (in a schema its offset in the record), its payload's
-- length (in a schema its width), its count (of an extension its id) and its order
pub record Token : Type 0 where
  pub kind : Kind
  pub mark : ℕ
  pub first : ℕ
  pub payload : ℕ
  pub extent : ℕ
  pub count : ℕ
  pub order : ℕ

-- 01's orders: a plain count, or none; first index slowest; first index fastest
abbrev pub plain_count : ℕ
plain_count = 0

abbrev pub first_slowest : ℕ
first_slowest = 1

abbrev pub first_fastest : ℕ
first_fastest = 2

-- a token, those below it, and those after it
pub data Forest : Type 0 where
  none : Forest
  node : Token → Forest → Forest → Forest

-- a token with nothing below it; and a token that counts nothing
abbrev pub alone : Token → Forest
alone t = node t none none

abbrev pub uncounted : Kind → ℕ → ℕ → ℕ → ℕ → Token
uncounted kind mark first payload extent =
    record { kind = kind; mark = mark; first = first; payload = payload; extent = extent; count = 0; order = plain_count }

-- how many tokens
unfoldable pub size : Forest → ℕ
size none = 0
size (node t below after) = suc (size below + size after)

-- one forest, and then another
infixr 6 ◌⊕◌
unfoldable pub ◌⊕◌ : Forest → Forest → Forest
none ⊕ g = g
node t below after ⊕ g = node t below (after ⊕ g)

-- those below the first token, and those after it
unfoldable pub below_first : Forest → Forest
below_first none = none
below_first (node t below after) = below

unfoldable pub after_first : Forest → Forest
after_first none = none
after_first (node t below after) = after

-- two kinds are the same
unfoldable pub is_kind : Kind → Kind → Bool
is_kind k l = eqb (kind_number k) (kind_number l)

-- how many members: a key goes with the member after it, so pairs and fields count once
unfoldable pub members : Forest → ℕ
members none = 0
members (node t below after) = (when is_kind key t.kind then 0 else 1) + members after

-- the counts of tokens that stand side by side: of dimensions, their values
unfoldable pub counts : Forest → List ℕ
counts none = []
counts (node t below after) = t.count ∷ counts after
