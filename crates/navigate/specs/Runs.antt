-- How the runs of a message's bytes follow one another.
use Rattle.std.specs.Prelude.{◌≡◌, ℕ, ◌<◌, ◌≤◌, List, length, Option, Some, None}
use Rattle.navigate.specs.declared.walk.Run.{Run}

-- a run begins at the byte where the last one ended, has a byte, and lies inside the message; after the message's last byte there is none
abbrev pub Follows : List ℕ → ℕ → Option Run → ℕ → Type 0
Follows message byte None after = length message ≤ byte
Follows message byte (Some run) after = (run.from ≡ byte) × (byte < run.end) × (run.end ≤ length message) × (run.end ≡ after)
