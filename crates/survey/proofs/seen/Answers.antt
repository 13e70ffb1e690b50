-- `survey::seen` meets its contract. Assumes nothing.
use Rattle.text.proofs.Readings.{exit}
use Rattle.survey.proofs.Looks.{sight_bad, sight_none, sight_first, sight_later, sight_good}
use Rattle.survey.proofs.seen.Goals as goal

pub returns-in_err-count-clause-reading : goal.returns-in_err-count-clause-reading
returns-in_err-count-clause-reading c = exit _ c.from_residual.ensures.1 (sight_bad c.args.start _ _ c.in_err-count.ensures.reading)

pub returns-then-corners-eq0-clause-reading : goal.returns-then-corners-eq0-clause-reading
returns-then-corners-eq0-clause-reading c =
    sight_none c.args.start _ c.in_ok-count.count c.in_ok-count.ensures.text c.in_ok-count.ensures.reading c.if-corners-eq0.true
    _ c.line_end.ensures.place

pub returns-in_err-first-clause-reading : goal.returns-in_err-first-clause-reading
returns-in_err-first-clause-reading c =
    exit _ c.from_residual-in_err-first.ensures.1
    (sight_first c.args.start _ c.in_ok-count.count c.in_ok-count.ensures.text c.in_ok-count.ensures.reading c.if-corners-eq0.false
    _ c.in_err-first.ensures.reading)

pub returns-in_err-last-clause-reading : goal.returns-in_err-last-clause-reading
returns-in_err-last-clause-reading c =
    exit _ c.from_residual-in_err-last.ensures.1
    (sight_later c.args.start _ c.in_ok-count.count c.in_ok-count.ensures.text c.in_ok-count.ensures.reading c.if-corners-eq0.false
    c.in_ok-first.first c.in_ok-first.ensures.text c.in_ok-first.ensures.reading _ _ c.in_err-last.ensures.reading)

pub returns-clause-reading : goal.returns-clause-reading
returns-clause-reading c =
    sight_good c.args.start _ c.in_ok-count.count c.in_ok-count.ensures.text c.in_ok-count.ensures.reading c.if-corners-eq0.false
    c.in_ok-first.first c.in_ok-first.ensures.text c.in_ok-first.ensures.reading _ c.then_some-few.ensures
    c.in_ok-last.last c.in_ok-last.ensures.reading _ c.line_end-2.ensures.place
