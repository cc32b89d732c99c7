-- Request No. 1: extensions, as the later BJData text has them. `E`, an id, a length and so many bytes.
use Rattle.std.specs.Prelude.{ℕ, ◌+◌, Bool, List, [], ◌∷◌, get_or, eqb}
use Rattle.format.specs.Outcome.{done, ◌>>=◌, ◌>>◌, guard}
use Rattle.format.specs.Limits.{id_limit}
use Rattle.format.specs.Refusals.{wrong_content}
use Rattle.format.specs.Marks.{width, 'E'}
use Rattle.format.specs.Tokens.{Token, extension as kind_of_extension, plain_count, alone}
use Rattle.format.specs.Bytes.{bytes}
use Rattle.format.specs.Content.{payload_end}
use Rattle.format.specs.Integers.{integer_to, integer}
use Rattle.format.specs.Sequences.{Reader, row_left}

-- the sizes that the ids from 1 on ask for
abbrev pub sizes : List ℕ
sizes = 4 ∷ 8 ∷ 12 ∷ 4 ∷ 4 ∷ 8 ∷ 8 ∷ 8 ∷ 16 ∷ 16 ∷ []

-- the size that an id asks for; n itself, where the id is 0, the list's place before the sizes, or above 10, past them, and so opaque
unfoldable pub size_of : ℕ → ℕ → ℕ
size_of id n = get_or (n ∷ sizes) id n

-- an id may have n bytes
unfoldable pub may_have : ℕ → ℕ → Bool
may_have id n = eqb n (size_of id n)

-- its token: the id is its count
abbrev pub extension_token : ℕ → ℕ → ℕ → ℕ → Token
extension_token id at start n =
    record { kind = kind_of_extension; mark = 'E'; first = at; payload = start; extent = n; count = id; order = plain_count }

-- the bytes of the id of the extension that begins at `first`: its mark and its number
unfoldable pub id_bytes : List ℕ → ℕ → List ℕ
id_bytes m first = get_or m (first + 1) 0 ∷ bytes m (first + 2) (width (get_or m (first + 1) 0))

module _ (m : List ℕ) (rows_lent : ℕ) where
  -- the id, whose limit is its own; the length; the size that the id asks for, refused at the `E`; the payload
  unfoldable pub extension : Reader
  extension at row = do
    row_left rows_lent at row
    (id, from) ← integer_to m id_limit (at + 1)
    (n, start) ← integer m from
    guard (may_have id n) wrong_content at
    next ← payload_end m 'E' start n
    done (alone (extension_token id at start n), next)
