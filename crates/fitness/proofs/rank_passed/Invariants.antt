-- `fitness::rank_passed` meets its contract: `bad` counts the darts before d that have no link of the rank. Assumes nothing.
use Rattle.fitness.specs.Parts.{linked_at}
use Rattle.fitness.proofs.Laws.{Faulty}
use Rattle.fitness.proofs.rank_passed.Given as goal

abbrev pub invariant-loop-d : goal.invariant-loop-d
invariant-loop-d l = Faulty (linked_at l.map.dim l.map.darts l.map.tables.now l.rank) l.from l.to l.d l.bad
