-- `corners::turn` meets its contract. Assumes nothing.
use Rattle.corners.specs.Steps.{spot}
use Rattle.corners.proofs.Steps.{step_last, step_on}
use Rattle.corners.proofs.turn.Goals as goal

pub returns-then-o-le1-clause-step : goal.returns-then-o-le1-clause-step
returns-then-o-le1-clause-step c =
    let o = c.opened-o.ensures in
    step_last _ (spot c.args.c) _ _ _ o.spot c.if-o-le1.true (rw o.text at c.line_end.ensures.place) c.begin.ensures.spot

pub returns-clause-step : goal.returns-clause-step
returns-clause-step c =
    let o = c.opened-o.ensures in
    step_on _ (spot c.args.c) _ _ o.spot c.if-o-le1.false (rw o.text at c.taken-v.ensures.number)
