-- `survey::others` meets its contract: own is the last corner read, worst what the corners up to it say. Assumes nothing.
use Rattle.text.proofs.Readings.{exit}
use Rattle.survey.proofs.Looks.{looking_bad, looking_next, looking_end}
use Rattle.survey.proofs.others.Goals as goal

pub returns-in_err-far-clause-reading : goal.returns-in_err-far-clause-reading
returns-in_err-far-clause-reading c =
    exit _ c.from_residual.ensures.1 (looking_bad c.loop.invariant c.loop-test.true _ c.in_err-far.ensures.reading)

pub loop-preserved : goal.loop-preserved
loop-preserved c =
    let far = c.in_ok-far.ensures in
    looking_next c.loop.invariant c.loop-test.true _ _ far.text far.reading c.worse-worst.ensures

pub returns-clause-reading : goal.returns-clause-reading
returns-clause-reading c = looking_end c.loop.invariant c.loop-test.false _ c.worse.ensures
