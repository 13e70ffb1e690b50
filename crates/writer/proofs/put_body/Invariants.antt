-- `writer::put_body` meets its contract: the replay goes along the walk, the queues below j are empty, and what was put are the codes of the symbols so far. A
-- turn makes a step or goes on to the next rank. Assumes nothing.
use Prim.Native.Nat.{◌+◌, ◌*◌, ◌-◌, ◌≤◌}
use Rattle.rules.specs.Lists.{sum}
use Rattle.rules.specs.Walk.{enough}
use Rattle.rules.specs.Inner.{Emptied}
use Rattle.tables.specs.Maps.{of}
use Rattle.writer.specs.Written.{WentOn}
use Rattle.writer.proofs.put_body.Given as goal

abbrev pub invariant-loop-j : goal.invariant-loop-j
invariant-loop-j l =
    let i = l.initial in
    (l.j ≤ l.valid.map.dim + 1) × Emptied l.count l.positions l.j
    × of WentOn l.valid.map l.work l.from i.positions i.sheet l.count l.positions l.sheet

abbrev pub decreases-loop-j : goal.decreases-loop-j
decreases-loop-j l = (enough l.valid.map.dim l.valid.map.darts - sum l.positions) * 8 + (7 - l.j)
