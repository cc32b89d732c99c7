-- Regions of the message: those that share no byte, and the one that holds a byte.
use Rattle.std.specs.Prelude.{ℕ, ◌+◌, ◌≤◌, ◌<◌, ◌≡◌}
use Rattle.format.specs.Outcome.{Outcome, done}
use Rattle.format.specs.Tokens.{Forest}
use Rattle.format.specs.Addresses.{Region}
use Rattle.laws.specs.Places.{Apart}
use Rattle.storage.specs.Addresses.{Address, InRange}

-- two regions share no byte
abbrev pub RegionsApart : Region → Region → Type 0
RegionsApart r q = Apart r.first r.wide q.first q.wide

-- a byte of a region
abbrev pub InRegion : ℕ → Region → Type 0
InRegion byte r = (r.first ≤ byte) × (byte < r.first + r.wide)

-- a byte lies in the region of exactly one address that is answered, and that one is in range
pub record InOne (f : Forest) (answer : Address → Outcome Region) (byte : ℕ) : Type 0 where
  pub address : Address
  pub in_range : InRange f address
  pub region : Region
  pub answered : answer address ≡ done region
  pub holds : InRegion byte region
  pub only : (b : Address) (r : Region) → answer b ≡ done r → InRegion byte r → b ≡ address
