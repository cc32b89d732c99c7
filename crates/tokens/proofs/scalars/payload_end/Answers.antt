-- `payload_end`: the message's end, then the content. Assumes nothing.
use mathlib.Core.Path.{sym, ◌∙◌, ap}
use native.Mathlib.Omega.{arith}
use Rattle.format.specs.Content.{is_content}
use Rattle.format.proofs.Parts.{part_is}
use Rattle.tokens.proofs.Cases.{payload_early, payload_wrong, payload_done}
use Rattle.tokens.proofs.scalars.payload_end.Goals as goal

pub returns-then-end-start-clause-is : goal.returns-then-end-start-clause-is
returns-then-end-start-clause-is c =
    sym (payload_early _ _ _ _ (omega arith))

pub returns-then-end-start-2-clause-is : goal.returns-then-end-start-2-clause-is
returns-then-end-start-2-clause-is c =
    sym (payload_early _ _ _ _ (omega arith))

pub returns-then-not-is_content-clause-is : goal.returns-then-not-is_content-clause-is
returns-then-not-is_content-clause-is c =
    sym (payload_wrong _ _ _ _ (omega arith) (sym (c.is_content.ensures ∙ ap (is_content _) (part_is _ _ _)) ∙ c.if-not-is_content.true))

pub returns-clause-is : goal.returns-clause-is
returns-clause-is c =
    sym (payload_done _ _ _ _ (omega arith) (sym (c.is_content.ensures ∙ ap (is_content _) (part_is _ _ _)) ∙ c.if-not-is_content.false))
