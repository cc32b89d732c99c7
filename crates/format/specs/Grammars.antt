-- Request No. 1: what a message may hold, by the edition that the caller names.
use Rattle.std.specs.Prelude.{Bool, true, false}

-- what a grammar has beside the values of 01
pub record Grammar : Type 0 where
  -- extensions: `E`, an id, a length and a payload
  pub extensions : Bool

-- the two editions: controllers of the old series send no extensions, those of the new one do
abbrev pub old : Grammar
old = record { extensions = false }

abbrev pub new : Grammar
new = record { extensions = true }
