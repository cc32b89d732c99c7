-- What the answers about slots and positions stand for.
use Rattle.std.specs.Prelude.{ℕ, ◌+◌, ◌*◌, ◌≡◌, true, List, eqb, Result, Ok, Err}
use Rattle.format.specs.Conditions.{when◌then◌else◌}
use Rattle.format.specs.Outcome.{Outcome, fault, done, guard, ◌>>=◌}
use Rattle.format.specs.Refusals.{not_there}
use Rattle.format.specs.Marks.{'['}
use Rattle.format.specs.Rows.{row_at}
use Rattle.format.specs.Indexes.{in_range, number_in}
use Rattle.format.specs.Addresses.{Region, dimensions, inside}
use Rattle.indexes.specs.Sums.{capped}
use Rattle.format.specs.Answers.{refusal_number}
use Rattle.format.specs.declared.refusals.Refusal.{Refusal}
use Rattle.addresses.specs.declared.slots.Slot.{Slot}

-- the region, or the refusal's number
abbrev pub slot_of : Result Slot Refusal → Outcome Region
slot_of (Err r) = fault (refusal_number r) 0
slot_of (Ok s) = done (record { mark = s.mark; first = s.span.first; wide = s.span.width })

-- a leaf's slot in record r of a table, by 01's formulas
unfoldable pub in_record : List ℕ → ℕ → ℕ → ℕ → ℕ → ℕ → Outcome Region
in_record ws message_bytes row leaf_row row_of_field r =
    let t = row_at ws row in
    let o = row_at ws leaf_row in
    let f = row_at ws row_of_field in
    when eqb t.mark '[' then inside ws message_bytes o.mark (t.payload + r * (row_at ws (row + 1)).extent + o.payload) 0 o.extent else
    inside ws message_bytes o.mark (t.payload + t.count * f.payload + r * f.extent + o.payload) f.payload o.extent

-- indexes in range of a container's extents, and their number, capped
pub record Placed (ws : List ℕ) (container from : ℕ) (is : List ℕ) (n : ℕ) : Type 0 where
  pub extents : List ℕ
  pub gathered : dimensions ws container from ≡ done extents
  pub ranged : in_range extents is ≡ true
  pub number : n ≡ capped (number_in (row_at ws container).order extents is)

-- the answer about indexes: a refusal of the rows, then of the indexes; or their number
abbrev pub Positions : List ℕ → ℕ → ℕ → List ℕ → Result ℕ Refusal → Type 0
Positions ws container from is (Err r) = (dimensions ws container from >>= λ ds. guard (in_range ds is) not_there 0) ≡ fault (refusal_number r) 0
Positions ws container from is (Ok n) = Placed ws container from is n
