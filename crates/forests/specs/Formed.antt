-- Tokens that are written as their rows say: a single one whole; another, an extension too, from what its row writes before those below it,
-- from those, and from what its row writes after them; a table from its schema and its dimensions, with something between.
use Rattle.std.specs.Prelude.{ℕ, ◌≡◌, true, false, List, ◌++◌, eqb}
use Rattle.format.specs.Tokens.{Token, kind_number, table, Forest, none, node}
use Rattle.format.specs.Rows.{Ancestry, row_of}
use Rattle.format.specs.HouseForm.{token, written, house}
use Rattle.writer.specs.Pieces.{is_single, single, head, middle, tail}

-- by itself
pub record Single (t : Token) : Type 0 where
  pub alone : is_single (kind_number t.kind) ≡ true
  pub form : (m : List ℕ) (link : ℕ) (ancestry : Ancestry) → token m t.kind t (written m none) ≡ single m (row_of t link ancestry)

-- around those below it
pub record Around (t : Token) (below : Forest) : Type 0 where
  pub not_alone : is_single (kind_number t.kind) ≡ false
  pub no_table : eqb (kind_number t.kind) (kind_number table) ≡ false
  pub form : (m : List ℕ) (link : ℕ) (ancestry : Ancestry) → token m t.kind t (written m below) ≡ head (row_of t link ancestry) ++ house m below ++ tail m (row_of t link ancestry)

-- around a schema and dimensions
pub record Tabular (t s : Token) (fields dimensions : Forest) : Type 0 where
  pub not_alone : is_single (kind_number t.kind) ≡ false
  pub is_table : eqb (kind_number t.kind) (kind_number table) ≡ true
  pub form : (m : List ℕ) (link : ℕ) (ancestry : Ancestry) → token m t.kind t (written m (node s fields dimensions))
      ≡ head (row_of t link ancestry) ++ house m (node s fields none) ++ middle (row_of t link ancestry) ++ house m dimensions ++ tail m (row_of t link ancestry)

pub data Formed : Forest → Type 0 where
  no_token : Formed none
  a_single : {t : Token} {after : Forest} → Single t → Formed after → Formed (node t none after)
  a_nested : {t : Token} {below after : Forest} → Around t below → Formed below → Formed after → Formed (node t below after)
  a_table : {t s : Token} {fields dimensions after : Forest} → Tabular t s fields dimensions → Formed (node s fields none) → Formed dimensions → Formed after
      → Formed (node t (node s fields dimensions) after)
