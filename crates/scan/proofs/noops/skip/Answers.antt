-- `skip`: what is skipped from the place reached is what is skipped from the start. Assumes nothing.
use Prim.Native.Nat.{ℕ, ◌≤◌, ◌<◌, max}
use mathlib.Core.Path.{◌≡◌, sym, ◌∙◌}
use mathlib.Core.List.{List}
use mathlib.Core.Logic.{◌⊎◌, inl, inr}
use lib.ListN.{length}
use Rattle.std.proofs.lemmas.Bool.{cases_lt}
use Rattle.format.specs.Bytes as Bytes
use native.Mathlib.Omega.{arith}
use Rattle.format.proofs.Noops.{skip_noop, skip_here, skip_end}
use Rattle.scan.proofs.noops.skip.Goals as goal

pub returns-then-message-i-ne-NOOP-clause-is : goal.returns-then-message-i-ne-NOOP-clause-is
returns-then-message-i-ne-NOOP-clause-is c =
    sym (skip_here c.args.message.now c.loop-i.i (omega arith) c.if-message-i-ne-NOOP.true) ∙ c.loop-i.invariant

pub loop-i-preserved : goal.loop-i-preserved
loop-i-preserved c =
    sym (skip_noop c.args.message.now c.loop-i.i (omega arith) c.if-message-i-ne-NOOP.false) ∙ c.loop-i.invariant

-- past the end nothing is skipped; before it, what is skipped to is the end
ended : (m : List ℕ) (at i : ℕ) → length m ≤ i → (at ≤ length m → i ≤ length m) → Bytes.skip m i ≡ Bytes.skip m at → (at < length m) ⊎ (length m ≤ at)
    → max at (length m) ≡ Bytes.skip m at
ended m at i e near s (inl h) = let k : max at (length m) ≡ i = omega arith in k ∙ sym (skip_end m i e) ∙ s
ended m at i e near s (inr h) = let k : max at (length m) ≡ at = omega arith in k ∙ sym (skip_end m at h)

pub returns-clause-is : goal.returns-clause-is
returns-clause-is c =
    let i = c.loop-i in
    c.max.ensures ∙ ended c.args.message.now c.args.at i.i c.loop-i-test.false i.auto.i-end i.invariant (cases_lt _ _)
