-- `leaf_over`: a leaf's width fits, and its column is looked at. Assumes nothing.
use Rattle.columns.proofs.Leaves.{leaf_over_lem}
use Rattle.columns.proofs.leaf_over.Goals as goal

pub returns-clause-is : goal.returns-clause-is
returns-clause-is c =
    (λ h i. leaf_over_lem _ _ _ _ _ _ _ _ _ (c.leaf_column-lowest.ensures.is h i))
