-- `survey::body` meets its contract. Assumes nothing.
use Rattle.text.proofs.Readings.{told_err}
use Rattle.survey.specs.Flaws.{plan_of}
use Rattle.survey.proofs.Plans.{planned_words, planned_faces, planned_good, plan_exit}
use Rattle.survey.proofs.body.Goals as goal

pub returns-in_err-start-clause-plan : goal.returns-in_err-start-clause-plan
returns-in_err-start-clause-plan c =
    plan_exit _ _ _ c.from_residual.ensures.1 (planned_words c.args.c _ (told_err _ _ _ c.in_err-start.ensures.place))

pub returns-in_err-s-clause-plan : goal.returns-in_err-s-clause-plan
returns-in_err-s-clause-plan c =
    let start = c.in_ok-start.ensures in
    plan_exit _ _ _ c.from_residual-in_err-s.ensures.1 (planned_faces c.args.c c.in_ok-start.start start.text start.place _ (told_err _ _ _ c.in_err-s.ensures))

pub returns-clause-plan : goal.returns-clause-plan
unfolding plan_of
returns-clause-plan c = let start = c.in_ok-start.ensures in planned_good c.args.c c.in_ok-start.start start.text start.place _ c.in_ok-s.ensures
