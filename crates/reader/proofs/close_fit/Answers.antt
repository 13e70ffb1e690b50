-- `reader::close_fit` meets its contract: by the state. Assumes nothing.
use mathlib.Core.List.{[]}
use Rattle.rules.specs.Refusals.{number_of}
use Rattle.rules.specs.Session.{close_as}
use Rattle.runs.proofs.Turns.{ready_limits}
use Rattle.reader.proofs.Laws.{close_by, running_ready, complete_limits, close_header, close_running, closed_left, unchanged_left, unchanged_number}
use Rattle.reader.proofs.close_fit.Goals as goal

pub spoiled-requires : goal.spoiled-requires
spoiled-requires c =
    ready_limits (running_ready c.args.s c.args.tables.now c.well_formed.0.1.1.1.1.1.1.0.1.0.1 c.requires [] c.in-Running.is).1

pub held-requires : goal.held-requires
held-requires c =
    let l = complete_limits c.args.s c.args.tables.now c.well_formed.0.1.1.1.1.1.1.0.1.0.1 c.requires c.in-Complete.is in
    (l.dims.1, l.darts.1)

pub returns-in-Header : goal.returns-in-Header
unfolding close_as number_of
returns-in-Header c =
    let r = rw c.number.ensures at c.refused.ensures in
    close_by c.args.s _ c.in-Header.is (close_header _ c.args.s _ r.0 r.1)

pub returns-in-Running : goal.returns-in-Running
unfolding close_as number_of
returns-in-Running c = close_by c.args.s _ c.in-Running.is (close_running _ c.args.s _ _ c.spoiled.ensures)

pub returns-in-Complete : goal.returns-in-Complete
unfolding close_as
returns-in-Complete c = close_by c.args.s _ c.in-Complete.is (closed_left _ c.args.s _ c.held.ensures.0 c.held.ensures.1)

pub returns-in-Closed : goal.returns-in-Closed
unfolding close_as number_of
returns-in-Closed c =
    let e = c.unchanged.ensures in
    close_by c.args.s _ c.in-Closed.is (unchanged_number _ c.args.s _ _ _ c.number-in-Closed.ensures e.0 e.1)

pub returns-in-Refused : goal.returns-in-Refused
unfolding close_as
returns-in-Refused c =
    close_by c.args.s _ c.in-Refused.is (unchanged_left _ c.args.s _ _ c.unchanged-in-Refused.ensures.0 c.unchanged-in-Refused.ensures.1)
