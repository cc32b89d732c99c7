-- Demand 3.
--
-- In plain words. A message holds lists and tables, such as a table of a ward's rooms that has each room's number and its mark: was the alert
-- there heard or not.
--
-- Ask for room 17's mark, and you are told where it stands: in the place that you come to by counting the table off from its first byte, in
-- the order in which it is stored. Ask for a room past the last, and you are told that it isn't there. Ask it of something that is no table,
-- or ask for what the table doesn't keep of a room, and you are told that. There is no other answer, and whatever is stored can be asked for.
--
-- Every byte of the table belongs to one thing that can be asked for, and to that one only: none is left over, and no two rooms share one.
--
-- Now let room 17's mark be changed, in any way that leaves a message that can be read. The rows, which list what the message holds, are the
-- same to the last number. What was found is found in the same place, and what was refused is refused alike. And everything but room 17's
-- mark, in this table and in every other list and table of the message, reads as before: the same bytes, the same value, the same text.
--
-- Formally. `m` is any message, `lent` any words, and `grammar` any edition's; the message was read into `lent` by
-- `grammar` and accepted, and `f` has its tokens. `after_reading m lent grammar` are the words after that. `proofs/Demand3` proves it of all of them.
use Rattle.std.specs.Prelude.{ℕ, ◌+◌, ◌≤◌, ◌<◌, ◌≡◌, ◌↔◌, length}
use mathlib.Core.List.{List, Memᴰ}
use Rattle.format.specs.Grammars.{Grammar}
use Rattle.format.specs.Outcome.{done}
use Rattle.format.specs.Marks.{'[', left_brace}
use Rattle.format.specs.Tokens.{Token, packed, table, Forest, node}
use Rattle.format.specs.Indexes.{number_in}
use Rattle.format.specs.Storage.{Slot, member_row, dimensions_of, storage}
use Rattle.format.specs.Addresses.{Region}
use Rattle.format.specs.Read.{read_into, rows_used}
use Rattle.laws.specs.Places.{At, IsCut}
use Rattle.laws.specs.Tiles.{Tiles}
use Rattle.storage.specs.Addresses.{Address, call, address_of, region_of, InRange}
use Rattle.storage.specs.Formulas.{in_array, in_row, in_column}
use Rattle.storage.specs.Places.{Field}
use Rattle.storage.specs.Regions.{InOne}
use Rattle.storage.specs.Verdicts.{Verdict}
use Rattle.changed.specs.Alike.{Alike}
use Rattle.demands.specs.Reads.{after_reading, reads}
use Rattle.demands.specs.Demand2.{Listed}

-- ---- the formulas

-- the number, from 0, of a slot's element or record in storage order
abbrev pub position : Token → Forest → Slot (List ℕ) → ℕ
position t below s = number_in t.order (dimensions_of t below) s.element

-- the region that 01's formula gives for a slot of the token at this row, given those below it: in a packed array, P and the mark's width
-- for each element before; in a table by rows, P + rR + o; by columns, P + Nf + rw + (o − f), with the top-level field of the slot's leaf
pub data ByFormula (row : ℕ) (t : Token) (s : Slot (List ℕ)) : Forest → Region → Type 0 where
  in_packed_array : {below : Forest} → t.kind ≡ packed → ByFormula row t s below (in_array t (position t below s))
  by_rows : {schema leaf : Token} {members dimensions under : Forest} → t.kind ≡ table → t.mark ≡ '['
      → At (member_row row) members s.leaf_row leaf under
      → ByFormula row t s (node schema members dimensions) (in_row t schema leaf (position t (node schema members dimensions) s))
  by_columns : {schema field leaf : Token} {members dimensions : Forest} {row_of_field : ℕ} → t.kind ≡ table → t.mark ≡ left_brace
      → Field (member_row row) members row_of_field field s.leaf_row leaf
      → ByFormula row t s (node schema members dimensions) (in_column t field leaf (position t (node schema members dimensions) s))

-- ---- one message

-- the payload of a packed array or table: its row, its token, and those below it; `ws` are the words of the rows
pub record Payload (m ws : List ℕ) (f : Forest) (row : ℕ) (t : Token) (below : Forest) : Type 0 where
  -- it lies inside the message
  pub inside : t.payload + t.extent ≤ length m
  -- storage order cuts it from its first byte to its last, without gaps
  pub end_to_end : Tiles t.extent 0 (storage row t below)
  -- each slot of the cut has an address in range, and the call answers that slot for it
  pub slot_answered : {s : Slot (List ℕ)} → Memᴰ s (storage row t below)
      → InRange f (address_of row t s) × (call ws (length m) (address_of row t s) ≡ done (region_of t s))
  -- and stands where 01's formula says
  pub slot_by_formula : {s : Slot (List ℕ)} → Memᴰ s (storage row t below) → ByFormula row t s below (region_of t s)
  -- every byte of it lies in the slot of exactly one address in range
  pub byte_in_one : (byte : ℕ) → t.payload ≤ byte → byte < t.payload + t.extent → InOne f (call ws (length m)) byte

-- ---- two messages

-- any other message that is like the first but for one slot
pub record Other (m lent : List ℕ) (grammar : Grammar) (slot : Region) (m' lent' : List ℕ) : Type 0 where
  -- it is of the same length and differs only inside the slot
  pub alike : Alike m m' slot.first slot.wide
  -- as many words are lent for it, whatever they held
  pub as_many_lent : length lent' ≡ length lent
  -- and it is accepted too, with tokens of its own
  pub tokens : Forest
  pub accepted : read_into m' lent' grammar ≡ done tokens

-- what is the same in both, where the slot is that of the address `a`
pub record Unchanged (m lent : List ℕ) (grammar : Grammar) (a : Address) (m' lent' : List ℕ) : Type 0 where
  -- as many rows are used
  pub used_same : rows_used (read_into m' lent' grammar) ≡ rows_used (read_into m lent grammar)
  -- the rows are equal word for word, and so are all lent words
  pub words_same : after_reading m' lent' grammar ≡ after_reading m lent grammar
  -- every address call names the same slot or gives the same refusal
  pub slots_same : (b : Address) → call (after_reading m' lent' grammar) (length m') b ≡ call (after_reading m lent grammar) (length m) b
  -- and every address but the changed one, in any array or table of the message, reads the same bytes, value and text
  pub others_same : (b : Address) → (b ≡ a → ⊥) → reads m' (after_reading m' lent' grammar) b ≡ reads m (after_reading m lent grammar) b

-- ---- the demand

-- of a message that was read into lent words and accepted, with these tokens
pub record Demand3 (m lent : List ℕ) (grammar : Grammar) (f : Forest) : Type 0 where
  -- the rows are those of demand 2
  pub rows : Listed m (after_reading m lent grammar) f
  -- an address is answered exactly when in range
  pub answered_in_range : (a : Address) → InRange f a ↔ ((slot : Region) × (call (after_reading m lent grammar) (length m) a ≡ done slot))
  -- with the slot that cutting the payload in storage order gives; else it is refused, by 12 for its rows, then by 10 for its indexes
  pub verdicts : (a : Address) → Verdict f a (call (after_reading m lent grammar) (length m) a)
  -- every packed array's and every table's slots tile its payload
  pub payloads : (row : ℕ) (t : Token) (below : Forest) → At 0 f row t below → IsCut t.kind → Payload m (after_reading m lent grammar) f row t below
  -- a change inside one slot changes nothing else
  pub changes : (a : Address) (slot : Region) → call (after_reading m lent grammar) (length m) a ≡ done slot
      → (m' lent' : List ℕ) → Other m lent grammar slot m' lent' → Unchanged m lent grammar a m' lent'
