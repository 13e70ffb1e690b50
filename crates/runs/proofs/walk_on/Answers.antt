-- `runs::walk_on` meets its contract: what is left to do from here is what was to do at the start, and the queues below the rank are empty.
-- A pass of the loop makes a turn or goes on past the rank. Assumes nothing.
use native.Mathlib.Omega.{arith}
use borrow.Author.Rules.{rules}
use Rattle.runs.proofs.Turns.{ready_limits}
use Rattle.runs.proofs.Runs.{going_start, going_few, going_past, past_less, going_less, going_more}
use Rattle.runs.proofs.Runs.{run_ended, run_stops}
use Rattle.runs.proofs.walk_on.Goals as goal

pub loop-at-init : goal.loop-at-init
loop-at-init c = rw c.search_at-at.ensures (going_start _ _ _ _ _ _ _ _ c.requires)

pub offset_bounds-positions-rank : goal.offset_bounds-positions-rank
offset_bounds-positions-rank c = let l = ready_limits c.loop-at.invariant.ready in omega arith

pub bounds-positions-rank : goal.bounds-positions-rank
bounds-positions-rank c =
    let l = ready_limits c.loop-at.invariant.ready in
    omega arith

pub past-at-requires : goal.past-at-requires
past-at-requires c =
    let g = c.loop-at.invariant in
    let l = ready_limits g.ready in
    (omega arith, omega arith, going_few g)

pub loop-at-smaller-then-at-positions : goal.loop-at-smaller-then-at-positions
loop-at-smaller-then-at-positions c = past_less c.loop-at.invariant c.loop-at-test.true c.if-at-positions.true c.past-at.ensures

pub loop-at-preserved-then-at-positions : goal.loop-at-preserved-then-at-positions
loop-at-preserved-then-at-positions c =
    going_past c.loop-at.invariant c.loop-at-test.true c.if-at-positions.true c.past-at.ensures

pub loop-at-smaller : goal.loop-at-smaller
loop-at-smaller c =
    rw c.search_at-at-in-Ok.ensures (going_less c.loop-at.invariant c.loop-at-test.true c.if-at-positions.false c.turn.ensures c.in-Ok.is)

pub loop-at-preserved : goal.loop-at-preserved
loop-at-preserved c =
    let g = going_more c.loop-at.invariant c.loop-at-test.true c.if-at-positions.false c.turn.ensures c.in-Ok.is (search rules) in
    rw c.search_at-at-in-Ok.ensures g

pub returns-in-Err : goal.returns-in-Err
returns-in-Err c =
    rw c.halt.ensures
    (run_stops c.loop-at.invariant c.loop-at-test.true c.if-at-positions.false c.turn.ensures _ c.in-Err.is)

pub returns : goal.returns
returns c = rw c.halt-2.ensures (run_ended c.loop-at.invariant (omega arith))
