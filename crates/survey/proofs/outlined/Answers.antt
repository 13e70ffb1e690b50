-- `survey::outlined` meets its contract. Assumes nothing.
use mathlib.Core.Path.{◌∙◌, ap}
use Rattle.text.specs.Leaves.{told_of, alone}
use Rattle.text.proofs.Readings.{told_err}
use Rattle.survey.proofs.Plans.{plan_exit, plan_keyword, plan_counts, plan_body}
use Rattle.survey.proofs.outlined.Goals as goal

pub returns-in_err-start-clause-plan : goal.returns-in_err-start-clause-plan
returns-in_err-start-clause-plan c =
    plan_exit _ _ _ c.from_residual.ensures.1 (plan_keyword _ _ (told_err _ _ _ c.in_err-start.ensures.place))

pub returns-in_err-sizes-clause-plan : goal.returns-in_err-sizes-clause-plan
returns-in_err-sizes-clause-plan c =
    let start = c.in_ok-start.ensures in
    plan_exit _ _ _ c.from_residual-in_err-sizes.ensures.1
    (plan_counts _ _ start.place _ (rw start.text at c.in_err-sizes.ensures.reading))

pub returns-clause-plan : goal.returns-clause-plan
returns-clause-plan c =
    let start = c.in_ok-start.ensures in
    let sizes = c.in_ok-sizes.ensures in
    c.body.ensures.plan ∙ rw (sizes.text, start.text) (ap (told_of alone) (plan_body _ _ start.place _ _ (rw start.text at sizes.reading)))
