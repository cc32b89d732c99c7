-- 01, "Addresses and values": the slot that a packed row and indexes, or a table row, a leaf row and indexes name, in any words.
-- First 12 for rows that don't fit, then 10 for the indexes, then 12 for a slot not inside the message.
use Rattle.std.specs.Prelude.{ℕ, zero, suc, ◌+◌, ◌-◌, ◌*◌, Bool, not, ◌&&◌, ◌||◌, List, [], ◌∷◌, length, leb, ltb, eqb}
use Rattle.format.specs.Conditions.{when◌then◌else◌, among, between}
use Rattle.format.specs.Outcome.{Outcome, fault, done, ◌>>=◌, ◌>>◌, guard}
use Rattle.format.specs.Limits.{dimension_limit}
use Rattle.format.specs.Refusals.{not_there, rows_dont_fit}
use Rattle.format.specs.Marks.{is_integer, is_type, is_leaf, width, 'S', '[', left_brace}
use Rattle.format.specs.Tokens.{Kind, kind_number, key, packed, table, leaf, schema_record, fixed_array, dimension, plain_count, first_slowest, first_fastest}
use Rattle.format.specs.Rows.{Row, row_at, rows_in}
use Rattle.format.specs.Indexes.{in_range, number_in}
use Rattle.format.specs.Storage.{member_row}
use Rattle.format.specs.Bytes.{within}

-- bytes of the message: the mark that they are read under, the first of them, and how many
pub record Region : Type 0 where
  pub mark : ℕ
  pub first : ℕ
  pub wide : ℕ

-- ---- what a row on the way must be: the kind, a mark and an order that the reader gives to a row in its place

-- a row of this kind, with one of these marks and an order up to the highest that it may have
unfoldable pub is_a : Kind → (ℕ → Bool) → ℕ → Row → Bool
is_a kind marks highest r = eqb r.kind (kind_number kind) && (marks r.mark && leb r.order highest)

unfoldable pub is_packed : Row → Bool
is_packed = is_a packed is_type first_fastest

unfoldable pub is_table : Row → Bool
is_table = is_a table (among ('[' ∷ left_brace ∷ [])) first_slowest

unfoldable pub is_key : Row → Bool
is_key = is_a key (eqb 'S') plain_count

unfoldable pub is_leaf_row : Row → Bool
is_leaf_row = is_a leaf is_leaf plain_count

unfoldable pub is_schema : Row → Bool
is_schema = is_a schema_record (eqb left_brace) plain_count

unfoldable pub is_fixed : Row → Bool
is_fixed = is_a fixed_array (eqb '[') plain_count

-- a leaf, a nested schema or a fixed array
unfoldable pub is_member : Row → Bool
is_member r = is_leaf_row r || (is_schema r || is_fixed r)

unfoldable pub is_dimension : Row → Bool
is_dimension = is_a dimension is_integer plain_count

-- a row that names this container as its parent (request No. 8), and fits
unfoldable pub child_of : ℕ → (Row → Bool) → Row → Bool
child_of container fits r = eqb r.parent (container + 1) && fits r

-- ---- the way

module _ (ws : List ℕ) where
  -- a row on the way, whose container's link is `stop`: it stands before `stop`, it is what the address needs, and its link goes
  -- up and does not pass `stop`; the link
  unfoldable pub along : (Row → Bool) → ℕ → ℕ → Outcome ℕ
  along fits stop row = do
    let r = row_at ws row
    guard (ltb row stop && fits r) rows_dont_fit 0
    guard (ltb row r.link && leb r.link stop) rows_dont_fit 0
    done r.link

  -- the dimensions of a container from a row on. `fuel` is at least the number of rows up to the container's link
  unfoldable pub dimensions_from : ℕ → ℕ → ℕ → Outcome (List ℕ)
  dimensions_from zero container row = done []
  dimensions_from (suc fuel) container row =
      let stop = (row_at ws container).link in
      when leb stop row then done [] else (do
        next ← along (child_of container is_dimension) stop row
        ds ← dimensions_from fuel container next
        done ((row_at ws row).count ∷ ds))

  -- what a container's indexes are for: word 5 for a plain count, else its dimensions, from a row on
  unfoldable pub dimensions : ℕ → ℕ → Outcome (List ℕ)
  dimensions container row =
      let c = row_at ws container in
      when eqb c.order plain_count then done (c.count ∷ []) else (do
        ds ← dimensions_from (length ws) container row
        guard (between 1 dimension_limit (length ds)) rows_dont_fit 0
        done ds)

  -- the member of a schema or fixed array, from a row on, that is the leaf or holds it. In a schema it stands where its key's
  -- link leads. `fuel` is at least the number of rows up to the container's link
  unfoldable pub seek : ℕ → ℕ → ℕ → ℕ → Outcome ℕ
  seek leaf_row zero container row = fault rows_dont_fit 0
  seek leaf_row (suc fuel) container row = do
    let c = row_at ws container
    here ← when is_schema c then along (child_of container is_key) c.link row else done row
    next ← along (child_of container is_member) c.link here
    let r = row_at ws here
    when eqb here leaf_row then guard (is_leaf_row r) rows_dont_fit 0 >> done here else
        when ltb here leaf_row && ltb leaf_row next then (do
          guard (not (is_leaf_row r)) rows_dont_fit 0
          _ ← seek leaf_row fuel here (here + 1)
          done here) else
        seek leaf_row fuel container next

  -- ---- the slots

  -- a slot, `less` bytes before `start`, must be inside the message
  unfoldable pub inside : ℕ → ℕ → ℕ → ℕ → ℕ → Outcome Region
  inside message_bytes mark start less wide = do
    guard (leb less start && within message_bytes (start - less) wide) rows_dont_fit 0
    done (record { mark = mark; first = start - less; wide = wide })

  -- a packed row and indexes: P, and the mark's width for each element before
  unfoldable pub packed_slot : ℕ → ℕ → List ℕ → Outcome Region
  packed_slot message_bytes row is = do
    _ ← along is_packed (rows_in ws) row
    let p = row_at ws row
    ds ← dimensions row (row + 1)
    guard (in_range ds is) not_there 0
    let r = number_in p.order ds is
    inside message_bytes p.mark (p.payload + r * width p.mark) 0 (width p.mark)

  -- a table row, a leaf row and indexes: by rows P + rR + o; by columns P + Nf + rw + (o − f)
  unfoldable pub table_slot : ℕ → ℕ → ℕ → List ℕ → Outcome Region
  table_slot message_bytes row leaf_row is = do
    stop ← along is_table (rows_in ws) row
    from ← along (child_of row is_schema) stop (row + 1)
    row_of_field ← seek leaf_row (length ws) (row + 1) (member_row row)
    ds ← dimensions row from
    guard (in_range ds is) not_there 0
    let t = row_at ws row
    let r = number_in t.order ds is
    let o = row_at ws leaf_row
    let f = row_at ws row_of_field
    when eqb t.mark '[' then inside message_bytes o.mark (t.payload + r * (row_at ws (row + 1)).extent + o.payload) 0 o.extent else
        inside message_bytes o.mark (t.payload + t.count * f.payload + r * f.extent + o.payload) f.payload o.extent
