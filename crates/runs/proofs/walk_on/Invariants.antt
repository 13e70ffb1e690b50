-- `runs::walk_on` meets its contract: what is left to do from here is what was to do at the start, and the queues below the rank are empty.
-- A pass of the loop makes a turn or goes on past the rank. Assumes nothing.
use Rattle.steps.specs.Steps.{stand_in}
use Rattle.runs.proofs.Runs.{RunGoing, passes_left}
use Rattle.runs.proofs.walk_on.Given as goal

abbrev pub invariant-loop-at : goal.invariant-loop-at
invariant-loop-at l = RunGoing l.dim l.darts (stand_in l.form l.bodies l.count l.initial.positions) l.initial.bits l.initial.tables l.at
    l.positions l.bits l.tables

abbrev pub decreases-loop-at : goal.decreases-loop-at
decreases-loop-at l = passes_left l.dim l.darts l.at l.positions
