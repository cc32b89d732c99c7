-- Demand 3, proved of every message and all lent words. Assumes nothing.
use Prim.Native.Nat.{ℕ}
use mathlib.Core.Path.{◌≡◌, sym, ap, ◌∙◌}
use mathlib.Core.List.{List, Memᴰ}
use mathlib.Core.Logic.{◌↔◌, inl, inr}
use lib.ListN.{length}
use Rattle.format.specs.Grammars.{Grammar}
use Rattle.format.specs.Outcome.{done}
use Rattle.format.specs.Marks.{Opening, bracket, brace, opens}
use Rattle.format.specs.Tokens.{Token, table, Forest, node}
use Rattle.format.specs.Rows.{rows_in}
use Rattle.format.specs.Storage.{Slot, member_row, storage}
use Rattle.format.specs.Addresses.{Region}
use Rattle.format.specs.TextAnswers.{part}
use Rattle.format.specs.Read.{read, read_into, rows_used}
use Rattle.laws.specs.Places.{At, IsCut}
use Rattle.storage.specs.Places.{Field, Filled}
use Rattle.storage.specs.Addresses.{Address, in_packed, in_table, call, region_of, InRange, is_in_range}
use Rattle.storage.proofs.Places.{field_at, read_fills}
use Rattle.storage.proofs.Naming.{names_at}
use Rattle.storage.proofs.Stored.{TableOf, table_of, as_table}
use Rattle.storage.proofs.Storage.{of_table}
use Rattle.storage.proofs.MessageSlots.{payload_in_message, is_stored, slots_tile, packed_formula, rows_formula, columns_formula}
use Rattle.storage.proofs.Addresses as Addresses
use Rattle.changed.specs.Alike.{Alike}
use Rattle.changed.specs.SameAnswers.{Untouched}
use Rattle.changed.proofs.SameRows.{same_tokens}
use Rattle.changed.proofs.SameAnswers.{same_in_packed, same_in_table}
use Rattle.demands.specs.Reads.{after_reading, value_at, text_at, reads}
use Rattle.demands.specs.Demand3.{ByFormula, in_packed_array, by_rows, by_columns, Payload, Other, Unchanged, Demand3}
use Rattle.demands.proofs.Demand2.{listed}

-- ---- one message

module _ (m : List ℕ) (rows_lent : ℕ) (grammar : Grammar) (f : Forest) (accepted : read m rows_lent grammar ≡ done f) where
  -- a table's slot stands where the formula of its layout says
  table_by_formula : {row row_of_field : ℕ} {t schema field l : Token} {members dims : Forest} {s : Slot (List ℕ)} → At 0 f row t (node schema members dims) → t.kind ≡ table
      → Memᴰ s (storage row t (node schema members dims)) → Field (member_row row) members row_of_field field s.leaf_row l
      → (o : Opening) → t.mark ≡ opens o → ByFormula row t s (node schema members dims) (region_of t s)
  unfolding opens
  table_by_formula x k i y bracket e = rw (rows_formula m rows_lent grammar f accepted x k i y e) (by_rows k e (field_at y).1)
  table_by_formula x k i y brace e = rw (columns_formula m rows_lent grammar f accepted x k i y e) (by_columns k e y)

  -- every slot stands where its formula says
  by_formula : {row : ℕ} {t : Token} {below : Forest} {s : Slot (List ℕ)} → At 0 f row t below → IsCut t.kind → Memᴰ s (storage row t below)
      → ByFormula row t s below (region_of t s)
  by_formula x (inl k) i = rw (packed_formula m rows_lent grammar f accepted x k i) (in_packed_array k)
  by_formula {row} {t} {s = s} x (inr k) i = go (as_table (is_stored m rows_lent grammar f accepted x (inr k)) k) x i
    where
      go : {below : Forest} → TableOf t below → At 0 f row t below → Memᴰ s (storage row t below) → ByFormula row t s below (region_of t s)
      go (table_of {s = schema} {members = members} {dims = dims} ok) x i =
          table_by_formula x k i (of_table row t schema members dims ok i).found ok.opening ok.mark_is

  module _ (ws : List ℕ) (filled : Filled f ws) where
    -- an address is answered exactly when in range
    exactly : (a : Address) → InRange f a ↔ ((slot : Region) × (call ws (length m) a ≡ done slot))
    exactly a = (go, λ y. Addresses.answered_in_range m rows_lent grammar f accepted ws filled a y.0 y.1)
      where
        go : InRange f a → (slot : Region) × (call ws (length m) a ≡ done slot)
        go (is_in_range {t = t} n h) = let y = Addresses.in_range_answered m rows_lent grammar f accepted ws filled n h in (region_of t y.0, y.3)

    -- the payload of a packed array or table
    payload : (row : ℕ) (t : Token) (below : Forest) → At 0 f row t below → IsCut t.kind → Payload m ws f row t below
    payload row t below x c = record {
      inside = payload_in_message m rows_lent grammar f accepted x c;
      end_to_end = slots_tile m rows_lent grammar f accepted x c;
      slot_answered = λ i. Addresses.slot_answered m rows_lent grammar f accepted ws filled x c i;
      slot_by_formula = λ i. by_formula x c i;
      byte_in_one = λ byte low high. Addresses.byte_in_one m rows_lent grammar f accepted ws filled x c byte low high;
    }

    -- an address but the one that was changed shares no byte with its slot
    untouched : (a b : Address) (slot : Region) → call ws (length m) a ≡ done slot → (b ≡ a → ⊥) → Untouched slot.first slot.wide (call ws (length m) b)
    untouched a b slot e n r d = elim (Addresses.answers_apart m rows_lent grammar f accepted ws filled b a r slot d e) [ inl q ↦ absurd (n q) | inr h ↦ h ]

    -- another message that is accepted, with a change inside the slot of an address, has the same tokens
    tokens_same : (a : Address) (slot : Region) (m' : List ℕ) (f' : Forest) → call ws (length m) a ≡ done slot → Alike m m' slot.first slot.wide
        → read m' rows_lent grammar ≡ done f' → f' ≡ f
    tokens_same a slot m' f' e d accepted' = go (Addresses.answered_in_range m rows_lent grammar f accepted ws filled a slot e)
      where
        go : InRange f a → f' ≡ f
        go (is_in_range {row = row} {t = t} {below = below} n h) =
            let x = names_at n in
            let p = Addresses.region_in_payload m rows_lent grammar f accepted ws filled e n in
            same_tokens m m' rows_lent grammar f f' accepted accepted' slot.first slot.wide row t below x.0 x.1 p.0 p.1 d

-- ---- two messages

-- an address whose slot a change leaves alone reads the same
reads_same : (m m' ws : List ℕ) (s w : ℕ) → Alike m m' s w → (b : Address) → Untouched s w (call ws (length m) b) → reads m' ws b ≡ reads m ws b
unfolding reads value_at text_at call part
reads_same m m' ws s w d (in_packed row is) u = let x = same_in_packed m m' s w d ws row is u in rw (x.bytes_same, x.value_same)
reads_same m m' ws s w d (in_table row leaf_row is) u =
    let x = same_in_table m m' s w d ws row leaf_row is u in rw (x.bytes_same, x.value_same, x.text_bytes_same, x.text_same)

-- ---- the demand

module _ (m lent : List ℕ) (grammar : Grammar) (f : Forest) (accepted : read_into m lent grammar ≡ done f) where
  -- what the reader's contract says, of the rows that the words have
  read_is : read m (rows_in lent) grammar ≡ done f
  unfolding read_into
  read_is = accepted

  -- the words that reading leaves hold the rows
  fills : Filled f (after_reading m lent grammar)
  fills = rw accepted (read_fills (length lent) f)

  module _ (a : Address) (slot : Region) (e : call (after_reading m lent grammar) (length m) a ≡ done slot) (m' lent' : List ℕ) (other : Other m lent grammar slot m' lent') where
    -- the other message, with the rows that the first had
    other_is : read m' (rows_in lent) grammar ≡ done other.tokens
    unfolding read_into rows_in
    other_is = rw other.as_many_lent at other.accepted

    -- is read to the same tokens
    reading_same : read_into m' lent' grammar ≡ read_into m lent grammar
    reading_same =
        let d = tokens_same m (rows_in lent) grammar f read_is (after_reading m lent grammar) fills a slot m' other.tokens e other.alike other_is in
        other.accepted ∙ ap done d ∙ sym accepted

    -- so the same words are left
    words_same : after_reading m' lent' grammar ≡ after_reading m lent grammar
    words_same = rw (other.as_many_lent, reading_same)

    -- and all the rest follows
    unchanged : Unchanged m lent grammar a m' lent'
    unchanged = record {
      used_same = ap rows_used reading_same;
      words_same = words_same;
      slots_same = λ b. rw (words_same, other.alike.long);
      others_same = λ b n.
          let u = untouched m (rows_in lent) grammar f read_is (after_reading m lent grammar) fills a b slot e n in
          rw words_same (reads_same m m' (after_reading m lent grammar) slot.first slot.wide other.alike b u);
    }

  -- all of it
  holds : Demand3 m lent grammar f
  holds = record {
    rows = listed m lent grammar f accepted;
    answered_in_range = exactly m (rows_in lent) grammar f read_is (after_reading m lent grammar) fills;
    verdicts = Addresses.verdict m (rows_in lent) grammar f read_is (after_reading m lent grammar) fills;
    payloads = payload m (rows_in lent) grammar f read_is (after_reading m lent grammar) fills;
    changes = unchanged;
  }

-- Demand 3, of every message that is accepted, whatever the lent words.
pub demand3 : (m lent : List ℕ) (grammar : Grammar) (f : Forest) → read_into m lent grammar ≡ done f → Demand3 m lent grammar f
demand3 = holds
