-- What an address names: one row, which is cut into slots. Assumes nothing.
use Prim.Native.Nat.{ℕ}
use mathlib.Core.Path.{◌≡◌, refl}
use mathlib.Core.List.{List}
use mathlib.Core.Logic.{inl, inr}
use Rattle.format.specs.Tokens.{Token, packed, table, leaf, Forest, below_first}
use Rattle.format.specs.Storage.{member_row}
use Rattle.laws.specs.Places.{At, IsCut}
use Rattle.storage.specs.Addresses.{Address, in_packed, in_table, Names, packed_row, table_leaf}
use Rattle.storage.proofs.Places.{at_same}

-- a packed row
pub names_packed : {f below : Forest} {row row' : ℕ} {is : List ℕ} {t : Token} → Names f (in_packed row is) row' t below → (row ≡ row') × At 0 f row t below × (t.kind ≡ packed)
names_packed (packed_row x k) = (refl, x, k)

-- or a table row and a leaf of its schema
pub names_table : {f below : Forest} {row leaf_row row' : ℕ} {is : List ℕ} {t : Token} → Names f (in_table row leaf_row is) row' t below
    → At 0 f row t below × (t.kind ≡ table) × ((l : Token) × (v : Forest) × At (member_row row) (below_first below) leaf_row l v × (l.kind ≡ leaf))
names_table (table_leaf {l = l} {v = v} x k y q) = (x, k, (l, v, y, q))

-- in either case a row of the forest that is cut into slots
pub names_at : {f below : Forest} {a : Address} {row : ℕ} {t : Token} → Names f a row t below → At 0 f row t below × IsCut t.kind
names_at (packed_row x k) = (x, inl k)
names_at (table_leaf x k y q) = (x, inr k)

-- and one only
pub names_same : {f below below' : Forest} {a : Address} {row row' : ℕ} {t t' : Token} → Names f a row t below → Names f a row' t' below'
    → (row ≡ row') × (t ≡ t') × (below ≡ below')
names_same (packed_row x k) (packed_row y l) = let e = at_same x y in (refl, e.0, e.1)
names_same (table_leaf x k u p) (table_leaf y l v q) = let e = at_same x y in (refl, e.0, e.1)
