-- `walk::number_rest` meets its contract: at each turn all queues are empty and every dart before d has a number, and a body begins with d where it has none.
-- Assumes nothing.
use Rattle.walk.proofs.Going.{Passed}
use Rattle.walk.proofs.number_rest.Given as goal

abbrev pub invariant-loop-d : goal.invariant-loop-d
invariant-loop-d l =
    Passed l.valid.map.dim l.valid.map.darts l.valid.map.tables.now l.from l.initial.positions l.initial.work l.bodies l.count l.positions l.work l.d
