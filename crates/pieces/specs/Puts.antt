-- Bytes put into lent bytes: how far they reach and, where they fit, the lent bytes with these in their place.
use Rattle.std.specs.Prelude.{ℕ, ◌+◌, ◌≤◌, ◌≡◌, List, length}
use Rattle.std.proofs.lemmas.List.Edits.{sets}

pub record Puts (before after : List ℕ) (at next : ℕ) (bs : List ℕ) : Type 0 where
  -- the place after them
  pub reach : next ≡ at + length bs
  -- as many lent bytes as before
  pub kept : length after ≡ length before
  -- what fits is there, and nothing else has changed
  pub there : next ≤ length before → after ≡ sets before at bs
