-- Demand 2.
--
-- In plain words. The reader accepts exactly what the rules allow, and lists it as they say. The rules are one definition, which goes
-- through the message from its first byte to its last; the reader answers what it answers, for every message. What is listed is this: a row
-- for each token, in the order of the message, and nothing else. Each row says what its token is and where it stands, names the row of the
-- token that holds it, if one does, and says how deep it is; a token begins after the one before it and inside the message, and its payload
-- lies inside the message too. All further words are zero. Whether a message is accepted, and as what, is its own affair: another table
-- that has the rows for it is filled alike.
--
-- The house form keeps the meaning. Rewriting an accepted message gives its house form, if the output has room for it. That is a message
-- that is accepted by the same rules, in as many rows, and means the same; rewriting it again changes nothing. Two messages mean the same
-- exactly if their house forms are the same bytes.
--
-- Formally. `m` is any message, `lent` any words for its rows, `output` any bytes for its house form, and `grammar` any edition's; the
-- message was read into `lent` by `grammar` and accepted, and `f` has its tokens. `proofs/Demand2` proves it of all of them. That the
-- reader accepts what the rules allow and nothing else is its contract: `reader::message::read` answers `read_into`, and leaves
-- `after_reading`. That what is refused isn't listed is in demand 1.
use Rattle.std.specs.Prelude.{ℕ, suc, ◌+◌, ◌-◌, ◌*◌, ◌≤◌, ◌<◌, ◌≡◌, List, ◌++◌, ◌⊎◌, ◌↔◌, length}
use Rattle.format.specs.Grammars.{Grammar}
use Rattle.format.specs.Outcome.{fault, done}
use Rattle.format.specs.Limits.{limit}
use Rattle.format.specs.Refusals.{output_too_long}
use Rattle.format.specs.Tokens.{Kind, leaf, schema_record, fixed_array, Token, Forest, size}
use Rattle.format.specs.Rows.{Ancestry, row_words, row_at, rows_in, row_of, all_rows, all_words, zeros, filled}
use Rattle.format.specs.Read.{read_into, rows_used}
use Rattle.format.specs.HouseForm.{house}
use Rattle.format.specs.SameMeaning.{SameMeaning}
use Rattle.laws.specs.Places.{At}
use Rattle.laws.specs.Rising.{Rising}
use Rattle.storage.specs.Places.{Top}
use Rattle.meaning.specs.Rewriting.{Rewritten, InHouseForm}
use Rattle.demands.specs.Reads.{after_reading}
use Rattle.demands.specs.Rewrites.{rewrite_into, words_after_rewriting, output_after_rewriting}

-- ---- what is listed

-- the kinds whose words 3 and 4 are an offset and a width in a record: 9 to 11
abbrev pub InRecord : Kind → Type 0
InRecord kind = (kind ≡ leaf) ⊎ ((kind ≡ schema_record) ⊎ (kind ≡ fixed_array))

-- the words `ws` list the tokens `f` of the message m
pub record Listed (m ws : List ℕ) (f : Forest) : Type 0 where
  -- the rows, and then zeros
  pub words : ws ≡ all_words f ++ zeros (length ws - size f * row_words)
  -- at each token's row stand its words, among them those of some ancestry
  pub rows : (row : ℕ) (t : Token) (below : Forest) → At 0 f row t below → (a : Ancestry) × (row_at ws row ≡ row_of t (suc row + size below) a)
  -- which is this: the outermost token names no parent, and its depth is 0
  pub outermost_row : (row : ℕ) (t : Token) (below : Forest) → Top 0 f row t below → ((row_at ws row).parent ≡ 0) × ((row_at ws row).depth ≡ 0)
  -- and a token that another holds names that one's row plus one, and is one deeper
  pub held_row : (row : ℕ) (t : Token) (below : Forest) → At 0 f row t below → (k : ℕ) (u : Token) (v : Forest) → Top (suc row) below k u v
      → ((row_at ws k).parent ≡ row + 1) × ((row_at ws k).depth ≡ (row_at ws row).depth + 1)
  -- and every row used is a token's
  pub tokens : (row : ℕ) → row < size f → (t : Token) × (below : Forest) × At 0 f row t below
  -- the first bytes of the rows rise, inside the message
  pub in_order : Rising 0 (length m) (all_rows f)
  -- a payload lies inside the message, from the token's first byte on
  pub payload_inside : (row : ℕ) (t : Token) (below : Forest) → At 0 f row t below → (InRecord t.kind → ⊥)
      → (t.first ≤ t.payload) × (t.payload + t.extent ≤ length m)

-- ---- what is written

-- the house form, where it is as long as this, fits the output and the limit
abbrev pub Fits : ℕ → List ℕ → Type 0
Fits long output = (long ≤ length output) × (long ≤ limit)

-- the bytes h are what rewriting the message m, with the tokens f, gave
pub record Rewrote (m lent output : List ℕ) (grammar : Grammar) (f : Forest) (h : List ℕ) : Type 0 where
  -- they are its house form
  pub form : h ≡ house m f
  -- they are accepted, in as many rows, and have the same meaning
  pub same_meaning : Rewritten m f (rows_in lent) grammar h
  -- they are their own house form, and rewriting them changes nothing
  pub in_house_form : InHouseForm h (rows_in lent) grammar
  pub again : rewrite_into h lent output grammar ≡ done h
  -- they stand in the output, and then zeros; and the lent words hold the rows of the message
  pub output_holds : output_after_rewriting m lent output grammar ≡ filled (length output) h
  pub words_hold : words_after_rewriting m lent output grammar ≡ after_reading m lent grammar

-- ---- the demand

-- of a message that was read into lent words and accepted, with these tokens
pub record Demand2 (m lent output : List ℕ) (grammar : Grammar) (f : Forest) : Type 0 where
  -- as many rows are used as it has tokens
  pub used : rows_used (read_into m lent grammar) ≡ done (size f)
  -- it is listed in the lent words
  pub listed : Listed m (after_reading m lent grammar) f
  -- in other words that have the rows for it, it is accepted alike
  pub elsewhere : (lent' : List ℕ) → size f ≤ rows_in lent' → read_into m lent' grammar ≡ done f
  -- it is rewritten if its house form fits, and else refused with 11
  pub fitting : Fits (length (house m f)) output → rewrite_into m lent output grammar ≡ done (house m f)
  pub too_long : (Fits (length (house m f)) output → ⊥) → rewrite_into m lent output grammar ≡ fault output_too_long 0
  -- what rewriting gave
  pub rewrote : (h : List ℕ) → rewrite_into m lent output grammar ≡ done h → Rewrote m lent output grammar f h
  -- another accepted message has the same meaning exactly if it has the same house form
  pub one_form : length (house m f) ≤ limit → (m' lent' : List ℕ) (f' : Forest) → read_into m' lent' grammar ≡ done f'
      → SameMeaning m (all_rows f) m' (all_rows f') ↔ (house m' f' ≡ house m f)
