-- `walk::number_body` meets its contract: the loop goes along the walk of the rules, the queues below j are empty, and the room holds the names so far. A turn
-- makes a step or goes on to the next rank. Assumes nothing.
use Prim.Native.Nat.{◌+◌, ◌*◌, ◌-◌, ◌≤◌}
use Rattle.rules.specs.Lists.{sum}
use Rattle.rules.specs.Walk.{enough}
use Rattle.rules.specs.Inner.{Emptied}
use Rattle.walk.specs.Standing.{WentOn}
use Rattle.walk.proofs.number_body.Given as goal

abbrev pub invariant-loop-j : goal.invariant-loop-j
invariant-loop-j l =
    (l.j ≤ l.valid.map.dim + 1) × Emptied l.count l.positions l.j
    × WentOn l.valid.map.dim l.valid.map.darts l.valid.map.tables.now l.from l.initial.positions l.initial.work l.count l.positions l.work

abbrev pub decreases-loop-j : goal.decreases-loop-j
decreases-loop-j l = (enough l.valid.map.dim l.valid.map.darts - sum l.positions) * 8 + (7 - l.j)
