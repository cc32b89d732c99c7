-- 01, "House form": 01's own name for the form in which the rewriter writes a message. No `N`; lengths, counts and dimensions
-- with the smallest of `U u m`; arrays and objects counted and untyped; dimensions marked, in brackets; the rest unchanged. Request
-- No. 1: so an extension's id keeps its mark.
use Rattle.std.specs.Prelude.{ℕ, zero, suc, ◌/◌, ◌%◌, ◌&&◌, List, [], ◌∷◌, ◌++◌, length, leb, eqb}
use Rattle.format.specs.Conditions.{when◌then◌else◌}
use Rattle.format.specs.Outcome.{Outcome, fault, done, ◌>>=◌, ◌>>◌, guard}
use Rattle.format.specs.Limits.{limit}
use Rattle.format.specs.Refusals.{output_too_long}
use Rattle.format.specs.Marks.{bracket, brace, opens, closes, width, 'S', '#', '$', '[', ']'}
use Rattle.format.specs.Tokens.{Kind, scalar, text, high_precision, key, array, object, packed, table, leaf, schema_record, fixed_array, dimension, extension, Token, plain_count, first_slowest, Forest, none, node}
use Rattle.format.specs.Rows.{zeros, filled}
use Rattle.format.specs.Bytes.{bytes}
use Rattle.format.specs.Integers.{smallest}
use Rattle.format.specs.Extensions.{id_bytes}
use Rattle.format.specs.Read.{read, words_after}
use Rattle.format.specs.Grammars.{Grammar}

-- a number in so many bytes, little-endian
unfoldable pub digits : ℕ → ℕ → List ℕ
digits zero n = []
digits (suc k) n = n % 256 ∷ digits k (n / 256)

-- a length, a count or a dimension
unfoldable pub small_integer : ℕ → List ℕ
small_integer n = smallest n ∷ digits (width (smallest n)) n

-- what stands after `#`: a plain count; or dimensions in brackets, in two where the first index is fastest
unfoldable pub shape : ℕ → ℕ → List ℕ → List ℕ
shape order n dims =
    when eqb order plain_count then small_integer n else
    when eqb order first_slowest then '[' ∷ dims ++ ']' ∷ [] else
    '[' ∷ '[' ∷ dims ++ ']' ∷ ']' ∷ []

-- a table: its layout's mark, its schema, its shape and its payload
unfoldable pub table_form : ℕ → List ℕ → List ℕ → List ℕ → List ℕ
table_form mark schema count payload = mark ∷ '$' ∷ schema ++ '#' ∷ count ++ payload

-- tokens as written: the first with those below it, and those after it
pub record Written : Type 0 where
  pub first : List ℕ
  pub rest : List ℕ

unfoldable pub whole : Written → List ℕ
whole w = w.first ++ w.rest

module _ (m : List ℕ) where
  -- a token's payload
  unfoldable pub payload_of : Token → List ℕ
  payload_of t = bytes m t.payload t.extent

  -- a token of a kind, given those below it as written
  unfoldable pub token : Kind → Token → Written → List ℕ
  token scalar t under = t.mark ∷ payload_of t
  token text t under = t.mark ∷ small_integer t.extent ++ payload_of t
  token high_precision t under = t.mark ∷ small_integer t.extent ++ payload_of t
  token key t under = small_integer t.extent ++ payload_of t
  token array t under = opens bracket ∷ '#' ∷ small_integer t.count ++ whole under
  token object t under = opens brace ∷ '#' ∷ small_integer t.count ++ whole under
  token packed t under = opens bracket ∷ '$' ∷ t.mark ∷ '#' ∷ shape t.order t.count (whole under) ++ payload_of t
  token table t under = table_form t.mark under.first (shape t.order t.count under.rest) (payload_of t)
  token leaf t under = t.mark ∷ (when eqb t.mark 'S' then small_integer t.extent else [])
  token schema_record t under = opens brace ∷ whole under ++ closes brace ∷ []
  token fixed_array t under = opens bracket ∷ whole under ++ closes bracket ∷ []
  token dimension t under = small_integer t.count
  token extension t under = t.mark ∷ id_bytes m t.first ++ small_integer t.extent ++ payload_of t

  unfoldable pub written : Forest → Written
  written none = record { first = []; rest = [] }
  written (node t below after) = record { first = token t.kind t (written below); rest = whole (written after) }

  -- the house form of a message, from its tokens
  unfoldable pub house : Forest → List ℕ
  house f = whole (written f)

  -- rewriting with so many rows lent and an output of `room` bytes: the reader's refusal, then 11; else the house form
  unfoldable pub rewrite : ℕ → Grammar → ℕ → Outcome (List ℕ)
  rewrite rows_lent grammar room = do
    f ← read m rows_lent grammar
    guard (leb (length (house f)) room && leb (length (house f)) limit) output_too_long 0
    done (house f)

-- beside number and place, the bytes written
unfoldable pub bytes_written : Outcome (List ℕ) → Outcome ℕ
bytes_written (fault n p) = fault n p
bytes_written (done h) = done (length h)

-- the output of `room` bytes after rewriting: the house form, then zeros; all zero on refusal
unfoldable pub output_after : ℕ → Outcome (List ℕ) → List ℕ
output_after room (fault n p) = zeros room
output_after room (done h) = filled room h

-- so many lent words after rewriting a message that reads as `tokens`: its rows, then zeros; all zero on refusal
unfoldable pub rewrite_words_after : ℕ → Outcome Forest → Outcome (List ℕ) → List ℕ
rewrite_words_after words tokens (fault n p) = zeros words
rewrite_words_after words tokens (done h) = words_after words tokens
