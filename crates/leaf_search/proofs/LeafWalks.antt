-- A walk over a leaf of a schema. Assumes nothing.
use Prim.Native.Nat.{ℕ, ◌+◌, ◌≤◌, ◌<◌}
use mathlib.Core.Path.{◌≡◌, sym, ◌∙◌}
use mathlib.Core.Bool.{true, false}
use mathlib.Core.List.{List}
use lib.ListN.{length, get_or}
use Rattle.format.specs.Outcome.{fault, done}
use Rattle.format.specs.Limits.{record_limit}
use Rattle.format.specs.Marks.{is_plain_leaf, leaf_width, 'S', '[', left_brace}
use Rattle.format.specs.Tokens.{Forest}
use Rattle.format.specs.Records.{total_width}
use Rattle.format.specs.Integers.{integer}
use Rattle.format.specs.Schemas.{leaf, kind_by, nested}
use Rattle.columns.proofs.Inverse.{never, done_pair}
use Rattle.columns.proofs.Leaves.{leaf_wide, kind_early, kind_plain, kind_text, kind_other, plain_done, text_done}
use Rattle.leaf_search.specs.Walks.{PassedLeaf, Over, Walks}
use Rattle.leaf_search.specs.declared.leaves.Seen.{Seen}
use Rattle.leaf_search.specs.declared.leaves.Walk.{Walk}
use Rattle.leaf_search.proofs.Search.{past-leaf}

module _ (m : List ℕ) (at offset : ℕ) (seen : Seen) (r : Walk) where
  -- a leaf that was passed, if it is within the limit
  abbrev LeafWalked : ℕ → ℕ → Type 0
  LeafWalked wide next = offset + wide ≤ record_limit → PassedLeaf wide next offset seen r

  leaf_over_lem : (mark wide next : ℕ) (f : Forest) → f ≡ leaf mark at wide → LeafWalked wide next → offset + total_width f ≤ record_limit → Over f next offset seen r
  leaf_over_lem mark wide next f e k = rw (e, leaf_wide mark at wide) (λ i.
      let p = k i in
      record { ended = p.ended; onward = rw (leaf_wide mark at wide) p.onward; sought = p.sought ∙ sym (past-leaf mark at wide offset seen) })

  pub no_walk : (levels : ℕ) → length m ≤ at → Walks (λ lent. kind_by m lent (nested m lent levels)) at offset seen r
  no_walk levels h lent row next f l e i = absurd (kind_early m lent (nested m lent levels) at row (f, next) h e)

  module _ (there : at < length m) where
    pub plain_walks : is_plain_leaf (get_or m at 0) ≡ true → (w : ℕ) → w ≡ leaf_width (get_or m at 0) → LeafWalked w (at + 1)
        → (levels : ℕ) → Walks (λ lent. kind_by m lent (nested m lent levels)) at offset seen r
    plain_walks p w q k levels lent row next f l e i =
        let d = plain_done m lent (nested m lent levels) at row (get_or m at 0) f next (sym (kind_plain m lent (nested m lent levels) at row there p) ∙ e) in
        rw d.1 (leaf_over_lem (get_or m at 0) w (at + 1) f (rw q d.0) k i)

    pub text_walks : is_plain_leaf (get_or m at 0) ≡ false → get_or m at 0 ≡ 'S' → (w end : ℕ) → integer m (at + 1) ≡ done (w, end) → LeafWalked w end
        → (levels : ℕ) → Walks (λ lent. kind_by m lent (nested m lent levels)) at offset seen r
    text_walks p s w end q k levels lent row next f l e i =
        let d = text_done m lent (nested m lent levels) at row f next (sym (kind_text m lent (nested m lent levels) at row there p s) ∙ e) in
        let z = done_pair (sym q ∙ d.1) in
        rw (← z.1) (leaf_over_lem 'S' w end f (rw z.0 d.2) k i)

    pub unread_walks : is_plain_leaf (get_or m at 0) ≡ false → get_or m at 0 ≡ 'S' → (x y : ℕ) → integer m (at + 1) ≡ fault x y
        → (levels : ℕ) → Walks (λ lent. kind_by m lent (nested m lent levels)) at offset seen r
    unread_walks p s x y q levels lent row next f l e i =
        let d = text_done m lent (nested m lent levels) at row f next (sym (kind_text m lent (nested m lent levels) at row there p s) ∙ e) in
        absurd (never (sym q ∙ d.1))

    pub other_walks : is_plain_leaf (get_or m at 0) ≡ false → (get_or m at 0 ≡ 'S' → ⊥) → (levels : ℕ) → (get_or m at 0 ≡ '[' → ⊥) → (get_or m at 0 ≡ left_brace → ⊥)
        → Walks (λ lent. kind_by m lent (nested m lent levels)) at offset seen r
    other_walks p s levels a b lent row next f l e i = absurd (kind_other m lent (nested m lent levels) at row there p s a b (f, next) e)
