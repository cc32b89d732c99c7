-- The cycle of `put_tokens`, `put_token` and `put_table`: a token's rows are among those of the tokens, and those below it are fewer.
-- Assumes nothing.
use Prim.Native.Nat.{◌+◌, ◌*◌, ◌-◌, ◌≤◌}
use mathlib.Core.Path.{◌≡◌}
use lib.ListN.{length}
use Rattle.forests.specs.Held.{Held, most}
use Rattle.forests.proofs.Going.{Going}
use Rattle.forests.proofs.walk.+put_table_put_token_put_tokens.Given as goal

abbrev pub decreases-put_table : goal.decreases-put_table
decreases-put_table l = 3 * (l.link - l.row)

abbrev pub decreases-put_token : goal.decreases-put_token
decreases-put_token l = 3 * (l.link - l.row) + 1

abbrev pub decreases-put_tokens : goal.decreases-put_tokens
decreases-put_tokens l = 3 * (l.stop - l.first) + 2

abbrev pub invariant-put_tokens-loop-row : goal.invariant-put_tokens-loop-row
invariant-put_tokens-loop-row l = (l.first ≤ l.row) × (l.row ≤ l.stop) × (l.to ≤ l.at + most * (l.row - l.first)) × (length l.output ≡ length l.initial.output) × ((h : Held l.rows l.first l.stop) → Going l.message l.rows l.initial.output l.output l.at l.row l.stop l.to h.tokens)

abbrev pub decreases-put_tokens-loop-row : goal.decreases-put_tokens-loop-row
decreases-put_tokens-loop-row l = l.stop - l.row
