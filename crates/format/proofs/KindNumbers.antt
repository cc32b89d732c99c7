-- A kind is told by its number. Assumes nothing.
use mathlib.Core.Path.{◌≡◌, refl, sym, ap, ◌∙◌}
use mathlib.Core.List.{List, [], ◌∷◌}
use lib.ListN.{get_or}
use Rattle.format.specs.Tokens.{Kind, kind_number, scalar, text, high_precision, key, array, object, packed, table, leaf, schema_record, fixed_array, dimension, extension}

-- the kinds by their numbers; 0 is none's
by_number : List Kind
by_number = scalar ∷ scalar ∷ text ∷ high_precision ∷ key ∷ array ∷ object ∷ packed ∷ table ∷ leaf ∷ schema_record ∷ fixed_array ∷ dimension ∷ extension ∷ []

-- a kind is found by its number
found : (k : Kind) → get_or by_number (kind_number k) scalar ≡ k
unfolding by_number
found scalar = refl
found text = refl
found high_precision = refl
found key = refl
found array = refl
found object = refl
found packed = refl
found table = refl
found leaf = refl
found schema_record = refl
found fixed_array = refl
found dimension = refl
found extension = refl

-- so kinds of one number are the same
pub same_number : (k l : Kind) → kind_number k ≡ kind_number l → k ≡ l
same_number k l e = sym (found k) ∙ ap (λ n. get_or by_number n scalar) e ∙ found l
