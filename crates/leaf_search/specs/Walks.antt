-- What a walk over a schema's bytes answers, by what reads them.
use Rattle.std.specs.Prelude.{ℕ, ◌+◌, ◌≤◌, ◌≡◌}
use Rattle.format.specs.Outcome.{done}
use Rattle.format.specs.Limits.{record_limit}
use Rattle.format.specs.Tokens.{Forest}
use Rattle.format.specs.Records.{total_width}
use Rattle.format.specs.Sequences.{Reader}
use Rattle.leaf_search.specs.Search.{passed, past}
use Rattle.leaf_search.specs.declared.leaves.Seen.{Seen}
use Rattle.leaf_search.specs.declared.leaves.Seen.TheVariants.{Left, Found}
use Rattle.leaf_search.specs.declared.leaves.Walk.{Walk}

-- a leaf that was found stands within a record's limit
abbrev pub Near : Seen → Type 0
Near (Left n) = Unit {0}
Near (Found offset wide) = offset ≤ record_limit

-- where a walk may begin
pub record Begins (offset : ℕ) (seen : Seen) : Type 0 where
  pub within : offset ≤ record_limit
  pub near : Near seen

-- and where it ends
pub record Ends (offset : ℕ) (w : Walk) : Type 0 where
  pub on : offset ≤ w.offset
  pub within : w.offset ≤ record_limit
  pub near : Near w.seen

-- a leaf of so many bytes was passed
pub record PassedLeaf (wide next offset : ℕ) (seen : Seen) (w : Walk) : Type 0 where
  pub ended : w.next ≡ next
  pub onward : w.offset ≡ offset + wide
  pub sought : w.seen ≡ passed seen offset wide

-- members were passed
pub record Over (f : Forest) (next offset : ℕ) (seen : Seen) (w : Walk) : Type 0 where
  pub ended : w.next ≡ next
  pub onward : w.offset ≡ offset + total_width f
  pub sought : w.seen ≡ past f offset seen

-- a walk over what a reader reads, if it reads it and its record is within the limit
abbrev pub Walks : (ℕ → Reader) → ℕ → ℕ → Seen → Walk → Type 0
Walks reader at offset seen w =
    (lent row next : ℕ) (f : Forest) → row ≤ lent → reader lent at row ≡ done (f, next) → offset + total_width f ≤ record_limit → Over f next offset seen w
