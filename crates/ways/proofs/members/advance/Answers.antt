-- `advance`: the member at this row, and the way past it. Assumes nothing.
use mathlib.Core.Path.{sym, ap, ◌∙◌}
use Rattle.format.specs.Answers.{found}
use Rattle.ways.proofs.Exits.{passed_on}
use Rattle.ways.proofs.Fields.{advance_refused, advance_at}
use Rattle.ways.proofs.members.advance.Goals as goal

pub returns-in_err-here : goal.returns-in_err-here
returns-in_err-here c =
    rw (passed_on _ _ c.from_residual.ensures.1) (advance_refused _ _ _ _ _ (rw (← c.load-c.ensures.there c.requires.0) (sym c.member.ensures ∙ ap found c.in_err-here.was)))

pub returns : goal.returns
returns c =
    let r = c.load-c.ensures.there c.requires.0 in advance_at _ c.args.leaf _ _ _ c.requires.1 (rw r at (sym c.member.ensures ∙ ap found c.in_ok-here.was)) c.pass.result (rw r at c.pass.ensures)
