-- `is_single`: by the kind. Assumes nothing.
use Rattle.writer.proofs.KindCases.{no_single, single_kind, other_single}
use Rattle.writer.proofs.kinds.is_single.Goals as goal

pub returns-in_default : goal.returns-in_default
returns-in_default c = no_single _ c.in_default.ensures

pub returns-in-Scalar : goal.returns-in-Scalar
returns-in-Scalar c =
    single_kind _ _ c.in-Ok.ensures c.in-Scalar.is

pub returns-in_default-matches : goal.returns-in_default-matches
returns-in_default-matches c =
    let d = c.in_default-matches in other_single _ _ c.in-Ok.ensures d.not-Scalar d.not-Text d.not-HighPrecision d.not-Key d.not-Leaf d.not-Dimension
