-- `report::report` meets its contract: the answer that the report's result makes. Assumes nothing.
use mathlib.Core.Path.{ap, sym, ◌∙◌}
use Rattle.report.specs.Answer.{answer_by, refusal_of}
use Rattle.report.proofs.report.Goals as goal

pub returns-in-Ok : goal.returns-in-Ok
returns-in-Ok c =
    let (e, u) = c.reported.ensures in
    (ap answer_by (sym c.in-Ok.is) ∙ e, u)

pub returns-in-Err : goal.returns-in-Err
unfolding refusal_of
returns-in-Err c =
    let (e, u) = c.reported.ensures in
    (c.refusal.ensures ∙ (rw c.number.ensures (ap answer_by (sym c.in-Err.is)) ∙ e), u)
