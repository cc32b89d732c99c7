-- `leaf`: a mark alone, or `S` and an integer. Assumes nothing.
use mathlib.Core.Path.{sym, ◌∙◌}
use Rattle.leaf_search.proofs.LeafWalks.{no_walk, plain_walks, text_walks, unread_walks, other_walks}
use Rattle.leaf_search.proofs.leaves.leaf.Goals as goal

pub returns-then-message-at-clause-is : goal.returns-then-message-at-clause-is
returns-then-message-at-clause-is c =
    (λ levels a b. no_walk _ _ _ _ _ levels c.if-message-at.true)

pub returns-then-is_plain_leaf-clause-is : goal.returns-then-is_plain_leaf-clause-is
returns-then-is_plain_leaf-clause-is c =
    (λ levels a b. plain_walks _ _ _ _ _ c.if-message-at.false (sym c.is_plain_leaf.ensures ∙ c.if-is_plain_leaf.true) _ c.leaf_width-wide.ensures c.leaf_over.ensures.is levels)

pub returns-then-mark-ne-TEXT-clause-is : goal.returns-then-mark-ne-TEXT-clause-is
returns-then-mark-ne-TEXT-clause-is c =
    (λ levels a b. other_walks _ _ _ _ _ c.if-message-at.false (sym c.is_plain_leaf.ensures ∙ c.if-is_plain_leaf.false) c.if-mark-ne-TEXT.true levels a b)

pub returns-in_default-clause-is : goal.returns-in_default-clause-is
returns-in_default-clause-is c =
    (λ levels a b. unread_walks _ _ _ _ _ c.if-message-at.false (sym c.is_plain_leaf.ensures ∙ c.if-is_plain_leaf.false) c.if-mark-ne-TEXT.false _ _ (sym c.in_default.ensures.is) levels)

pub returns-clause-is : goal.returns-clause-is
returns-clause-is c =
    (λ levels a b. text_walks _ _ _ _ _ c.if-message-at.false (sym c.is_plain_leaf.ensures ∙ c.if-is_plain_leaf.false) c.if-mark-ne-TEXT.false _ _ (sym c.in-Ok.ensures.is) c.leaf_over-2.ensures.is levels)
