-- `survey::faces` meets its contract: k faces are read, and s is what they say. Assumes nothing.
use Rattle.std.proofs.Common.{rules}
use Rattle.text.specs.Leaves.{told_of}
use Rattle.survey.proofs.Looks.{surveying_start, surveying_bad, surveying_next, surveying_end}
use Rattle.survey.proofs.faces.Goals as goal

pub loop-k-init : goal.loop-k-init
loop-k-init c = surveying_start _ _ _

pub returns-in-Err : goal.returns-in-Err
unfolding told_of
returns-in-Err c = rw (surveying_bad c.loop-k.invariant c.loop-k-test.true _ c.in-Err.ensures.reading)

pub loop-k-preserved : goal.loop-k-preserved
loop-k-preserved c =
    let f = c.in-Ok.ensures in
    surveying_next c.loop-k.invariant c.loop-k-test.true _ f.text f.reading (search rules) _ c.judged-s.ensures

pub returns : goal.returns
returns c = surveying_end c.loop-k.invariant c.loop-k-test.false
