-- 01, "Checked examples": the twelve, with rows enough and, by request No. 8, ten words to a row, as a list and one test; and some of
-- extensions, for request No. 1.
-- `proofs/Examples` proves that all pass.
use Rattle.std.specs.Prelude.{ℕ, Bool, true, false, not, ◌&&◌, List, [], ◌∷◌, ◌++◌, length, get_or, replicate, eqb}
use Rattle.format.specs.Conditions.{same}
use Rattle.format.specs.Outcome.{Outcome, fault, done}
use Rattle.format.specs.Tokens.{Forest}
use Rattle.format.specs.Rows.{Row, all_rows, all_words}
use Rattle.format.specs.Addresses.{Region, packed_slot, table_slot}
use Rattle.format.specs.HouseForm.{house}
use Rattle.format.specs.SameMeaning.{row_meaning}
use Rattle.format.specs.Grammars.{Grammar}
use Rattle.format.specs.Read.{read_whole}

-- what an example says of a message: its refusal's number and place; that it is accepted; its rows, whole; the place and the byte
-- of an index of the packed array at row 0; the place of a record of a leaf of the table at row 0; its house form
pub data Claim : Type 0 where
  refused : ℕ → ℕ → Claim
  accepted : Claim
  listed : List ℕ → Claim
  element : List ℕ → ℕ → ℕ → Claim
  field : ℕ → ℕ → ℕ → Claim
  rewritten : List ℕ → Claim

pub record Example : Type 0 where
  pub message : List ℕ
  pub claim : Claim

-- a slot that starts at a place
unfoldable pub starts_at : ℕ → Outcome Region → Bool
starts_at place (fault n p) = false
starts_at place (done s) = eqb s.first place

-- what is claimed of a message that is accepted
unfoldable pub holds : List ℕ → Forest → Claim → Bool
holds m f (refused n p) = false
holds m f accepted = true
holds m f (listed words) = same (all_words f) words
holds m f (element is place b) =
    starts_at place (packed_slot (all_words f) (length m) 0 is) && eqb (get_or m place 0) b
holds m f (field leaf_row number place) =
    starts_at place (table_slot (all_words f) (length m) 0 leaf_row (number ∷ []))
holds m f (rewritten bytes) = same (house m f) bytes

-- what is claimed of a message that is refused
unfoldable pub refused_as : ℕ → ℕ → Claim → Bool
refused_as n p (refused k q) = eqb n k && eqb p q
refused_as n p accepted = false
refused_as n p (listed words) = false
refused_as n p (element is place b) = false
refused_as n p (field leaf_row number place) = false
refused_as n p (rewritten bytes) = false

unfoldable pub meets : Outcome Forest → Example → Bool
meets (fault n p) e = refused_as n p e.claim
meets (done f) e = holds e.message f e.claim

-- the test
unfoldable pub all_meet : Grammar → List Example → Bool
all_meet grammar [] = true
all_meet grammar (e ∷ es) = meets (read_whole e.message grammar) e && all_meet grammar es

-- what counts of rows of a message, one after another
unfoldable pub counting : List ℕ → List Row → List ℕ
counting m [] = []
counting m (r ∷ rs) = let x = row_meaning m r in x.0 ++ x.1 ++ x.2 ++ counting m rs

-- two messages that are accepted, and whose meanings differ
unfoldable pub differ : List ℕ → Outcome Forest → List ℕ → Outcome Forest → Bool
differ m (fault k p) n o = false
differ m (done f) n (fault k p) = false
differ m (done f) n (done g) = not (same (counting m (all_rows f)) (counting n (all_rows g)))

-- the test of pairs that differ
unfoldable pub all_differ : Grammar → List (List ℕ × List ℕ) → Bool
all_differ grammar [] = true
all_differ grammar (p ∷ ps) = differ p.0 (read_whole p.0 grammar) p.1 (read_whole p.1 grammar) && all_differ grammar ps

-- examples 9 and 10, and both layouts of example 12, up to their payload
abbrev pub slowest : List ℕ
slowest = 0x5B ∷ 0x24 ∷ 0x55 ∷ 0x23 ∷ 0x5B ∷ 0x69 ∷ 0x02 ∷ 0x69 ∷ 0x03 ∷ 0x5D ∷ []

abbrev pub wrapped : List ℕ
wrapped = 0x5B ∷ 0x24 ∷ 0x55 ∷ 0x23 ∷ 0x5B ∷ 0x5B ∷ 0x69 ∷ 0x02 ∷ 0x69 ∷ 0x03 ∷ 0x5D ∷ 0x5D ∷ []

abbrev pub table_of : ℕ → List ℕ
table_of opening = opening ∷ 0x24 ∷ 0x7B ∷ 0x55 ∷ 0x01 ∷ 0x61 ∷ 0x55 ∷ 0x55 ∷ 0x01 ∷ 0x62 ∷ 0x54 ∷ 0x7D ∷ 0x23 ∷ 0x55 ∷ 0x02 ∷ []

-- example 12's rows
abbrev pub table_rows : List ℕ
table_rows =
    8 ∷ 91 ∷ 0 ∷ 15 ∷ 4 ∷ 2 ∷ 6 ∷ 0 ∷ 0 ∷ 0
    ∷ 10 ∷ 123 ∷ 2 ∷ 0 ∷ 2 ∷ 2 ∷ 6 ∷ 0 ∷ 1 ∷ 1
    ∷ 4 ∷ 83 ∷ 3 ∷ 5 ∷ 1 ∷ 0 ∷ 3 ∷ 0 ∷ 2 ∷ 2
    ∷ 9 ∷ 85 ∷ 6 ∷ 0 ∷ 1 ∷ 0 ∷ 4 ∷ 0 ∷ 2 ∷ 2
    ∷ 4 ∷ 83 ∷ 7 ∷ 9 ∷ 1 ∷ 0 ∷ 5 ∷ 0 ∷ 2 ∷ 2
    ∷ 9 ∷ 84 ∷ 10 ∷ 1 ∷ 1 ∷ 0 ∷ 6 ∷ 0 ∷ 2 ∷ 2 ∷ []

-- 1 to 12, of which 8 and 12 have two each
abbrev pub examples : List Example
examples =
    record { message = []; claim = refused 2 0 }
    ∷ record { message = 0x5A ∷ []; claim = listed (1 ∷ 90 ∷ 0 ∷ 1 ∷ 0 ∷ 0 ∷ 1 ∷ 0 ∷ 0 ∷ 0 ∷ []) }
    ∷ record { message = 0x4E ∷ 0x4E ∷ []; claim = refused 2 2 }
    ∷ record { message = 0x5A ∷ 0x5A ∷ []; claim = refused 9 1 }
    ∷ record { message = 0x53 ∷ 0x69 ∷ 0xFF ∷ []; claim = refused 6 1 }
    ∷ record { message = 0x43 ∷ 0x80 ∷ []; claim = refused 4 1 }
    ∷ record { message = 0x5B ∷ 0x24 ∷ 0x64 ∷ 0x5D ∷ []; claim = refused 3 3 }
    ∷ record { message = replicate 33 0x5B; claim = refused 7 32 }
    ∷ record { message = replicate 32 0x5B ++ replicate 32 0x5D; claim = accepted }
    ∷ record { message = slowest ++ 1 ∷ 2 ∷ 3 ∷ 4 ∷ 5 ∷ 6 ∷ []; claim = element (1 ∷ 0 ∷ []) 13 4 }
    ∷ record { message = wrapped ++ 1 ∷ 2 ∷ 3 ∷ 4 ∷ 5 ∷ 6 ∷ []; claim = element (1 ∷ 0 ∷ []) 13 2 }
    ∷ record { message = 0x5B ∷ 0x5D ∷ []; claim = rewritten (0x5B ∷ 0x23 ∷ 0x55 ∷ 0x00 ∷ []) }
    ∷ record { message = table_of 0x5B ++ 0x05 ∷ 0x54 ∷ 0x06 ∷ 0x46 ∷ []; claim = listed table_rows }
    ∷ record { message = table_of 0x7B ++ 0x05 ∷ 0x06 ∷ 0x54 ∷ 0x46 ∷ []; claim = field 5 1 18 }
    ∷ []

-- an id of 32 bits under `M`, up to the length
abbrev pub wide_id : List ℕ
wide_id = 0x45 ∷ 0x4D ∷ 0xFF ∷ 0xFF ∷ 0xFF ∷ 0xFF ∷ 0 ∷ 0 ∷ 0 ∷ 0 ∷ []

-- extensions, by the new edition: a row, id and size; the highest id, and one above; a negative id, and a negative length; a wrong size
-- before the payload's end; `N` before the id; the deepest level holds one; none as a type; house form
abbrev pub extensions : List Example
extensions =
    record { message = 0x45 ∷ 0x55 ∷ 1 ∷ 0x55 ∷ 4 ∷ 9 ∷ 8 ∷ 7 ∷ 6 ∷ []; claim = listed (13 ∷ 69 ∷ 0 ∷ 5 ∷ 4 ∷ 1 ∷ 1 ∷ 0 ∷ 0 ∷ 0 ∷ []) }
    ∷ record { message = wide_id ++ 0x55 ∷ 0 ∷ []; claim = listed (13 ∷ 69 ∷ 0 ∷ 12 ∷ 0 ∷ 4_294_967_295 ∷ 1 ∷ 0 ∷ 0 ∷ 0 ∷ []) }
    ∷ record { message = 0x45 ∷ 0x4D ∷ 0 ∷ 0 ∷ 0 ∷ 0 ∷ 1 ∷ 0 ∷ 0 ∷ 0 ∷ 0x55 ∷ 0 ∷ []; claim = refused 5 1 }
    ∷ record { message = 0x45 ∷ 0x69 ∷ 0xFF ∷ 0x55 ∷ 0 ∷ []; claim = refused 6 1 }
    ∷ record { message = 0x45 ∷ 0x55 ∷ 1 ∷ 0x69 ∷ 0xFF ∷ []; claim = refused 6 3 }
    ∷ record { message = 0x45 ∷ 0x55 ∷ 1 ∷ 0x55 ∷ 5 ∷ []; claim = refused 4 0 }
    ∷ record { message = 0x45 ∷ 0x4E ∷ 0x55 ∷ 0 ∷ 0x55 ∷ 0 ∷ []; claim = refused 3 1 }
    ∷ record { message = replicate 32 0x5B ++ 0x45 ∷ 0x55 ∷ 0 ∷ 0x55 ∷ 0 ∷ replicate 32 0x5D; claim = accepted }
    ∷ record { message = 0x5B ∷ 0x24 ∷ 0x45 ∷ 0x23 ∷ 0x55 ∷ 0 ∷ []; claim = refused 3 2 }
    ∷ record { message = wide_id ++ 0x6C ∷ 1 ∷ 0 ∷ 0 ∷ 0 ∷ 7 ∷ []; claim = rewritten (wide_id ++ 0x55 ∷ 1 ∷ 7 ∷ []) }
    ∷ []

-- and by the old one
abbrev pub no_extensions : List Example
no_extensions =
    record { message = 0x45 ∷ 0x55 ∷ 0 ∷ 0x55 ∷ 0 ∷ []; claim = refused 3 0 }
    ∷ record { message = 0x5B ∷ 0x45 ∷ 0x55 ∷ 0 ∷ 0x55 ∷ 0 ∷ 0x5D ∷ []; claim = refused 3 1 }
    ∷ []

-- extensions that differ: in the id, in its mark alone, in the payload
abbrev pub different : List (List ℕ × List ℕ)
different =
    (0x45 ∷ 0x55 ∷ 20 ∷ 0x55 ∷ 1 ∷ 7 ∷ [], 0x45 ∷ 0x55 ∷ 21 ∷ 0x55 ∷ 1 ∷ 7 ∷ [])
    ∷ (0x45 ∷ 0x55 ∷ 20 ∷ 0x55 ∷ 1 ∷ 7 ∷ [], 0x45 ∷ 0x69 ∷ 20 ∷ 0x55 ∷ 1 ∷ 7 ∷ [])
    ∷ (0x45 ∷ 0x55 ∷ 20 ∷ 0x55 ∷ 1 ∷ 7 ∷ [], 0x45 ∷ 0x55 ∷ 20 ∷ 0x55 ∷ 1 ∷ 8 ∷ [])
    ∷ []
