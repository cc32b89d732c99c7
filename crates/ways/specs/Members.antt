-- The walk over the members of a schema, one member at a time.
use Rattle.std.specs.Prelude.{ℕ, suc, ◌+◌, ◌≤◌, ◌<◌, ◌≡◌, not, ◌&&◌, List, ltb, eqb, Result, Ok, Err}
use Rattle.format.specs.Conditions.{when◌then◌else◌}
use Rattle.format.specs.Outcome.{Outcome, fault, done, guard, ◌>>=◌, ◌>>◌}
use Rattle.format.specs.Refusals.{rows_dont_fit}
use Rattle.format.specs.Rows as Rows
use Rattle.format.specs.Rows.{row_at, rows_in}
use Rattle.format.specs.Addresses.{child_of, along, seek, is_schema, is_key, is_member, is_leaf_row}
use Rattle.format.specs.Answers.{refusal_number}
use Rattle.format.specs.declared.refusals.Refusal.{Refusal}
use Rattle.ways.specs.declared.members.Step.{Step}
use Rattle.ways.specs.declared.members.Step.TheVariants.{Leaf, Inside, Next}

-- the member that stands at a row of a container, or where the key's link leads
unfoldable pub member_from : List ℕ → ℕ → Rows.Row → ℕ → Outcome ℕ
member_from ws container c row = when is_schema c then along ws (child_of container is_key) c.link row else done row

-- what `seek` does from a member on: with the leaf, inside a member that holds it, or after a member that doesn't
unfoldable pub passing : List ℕ → ℕ → ℕ → Rows.Row → ℕ → (ℕ → Outcome ℕ) → (ℕ → Outcome ℕ) → Outcome ℕ
passing ws leaf_row container c here inside after = do
  next ← along ws (child_of container is_member) c.link here
  let r = row_at ws here
  when eqb here leaf_row then guard (is_leaf_row r) rows_dont_fit 0 >> done here else
      when ltb here leaf_row && ltb leaf_row next then (do
        guard (not (is_leaf_row r)) rows_dont_fit 0
        _ ← inside here
        done here) else
      after next

-- a member that is gone into, or passed, stands inside its container
pub record Goes (ws : List ℕ) (c : Rows.Row) (here next : ℕ) : Type 0 where
  pub inside : here < c.link
  pub link : (row_at ws here).link ≡ next
  pub up : here < next
  pub stops : next ≤ c.link

-- the answer at a member
abbrev pub Passes : List ℕ → ℕ → ℕ → Rows.Row → ℕ → Result Step Refusal → Type 0
Passes ws leaf_row container c here (Err r) = (inside after : ℕ → Outcome ℕ) → passing ws leaf_row container c here inside after ≡ fault (refusal_number r) 0
Passes ws leaf_row container c here (Ok (Leaf x)) =
    ((inside after : ℕ → Outcome ℕ) → passing ws leaf_row container c here inside after ≡ done x) × (x ≡ leaf_row) × (leaf_row < c.link)
Passes ws leaf_row container c here (Ok (Inside x)) =
    ((inside after : ℕ → Outcome ℕ) → passing ws leaf_row container c here inside after ≡ (inside x >>= λ _. done x)) × (x ≡ here) × Goes ws c here (row_at ws here).link
Passes ws leaf_row container c here (Ok (Next x)) = ((inside after : ℕ → Outcome ℕ) → passing ws leaf_row container c here inside after ≡ after x) × Goes ws c here x

-- the answer at a row of a container, as the definition goes on from it
abbrev pub Steps : List ℕ → ℕ → ℕ → ℕ → Result Step Refusal → Type 0
Steps ws leaf_row container row (Err r) = (fuel : ℕ) → seek ws leaf_row (suc fuel) container row ≡ fault (refusal_number r) 0
Steps ws leaf_row container row (Ok (Leaf x)) =
    ((fuel : ℕ) → seek ws leaf_row (suc fuel) container row ≡ done x) × (x ≡ leaf_row) × (leaf_row < rows_in ws)
Steps ws leaf_row container row (Ok (Inside x)) =
    ((fuel : ℕ) → seek ws leaf_row (suc fuel) container row ≡ (seek ws leaf_row fuel x (x + 1) >>= λ _. done x))
    × (row ≤ x) × (x < rows_in ws) × ((row_at ws x).link ≤ rows_in ws)
Steps ws leaf_row container row (Ok (Next x)) =
    ((fuel : ℕ) → seek ws leaf_row (suc fuel) container row ≡ seek ws leaf_row fuel container x) × (row < x) × (x ≤ rows_in ws)

-- the leaf that was found and its field are rows
abbrev pub AreRows : List ℕ → ℕ → Result ℕ Refusal → Type 0
AreRows ws leaf_row (Err r) = Unit {0}
AreRows ws leaf_row (Ok x) = (leaf_row < rows_in ws) × (x < rows_in ws)
