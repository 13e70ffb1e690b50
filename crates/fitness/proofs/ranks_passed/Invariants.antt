-- `fitness::ranks_passed` meets its contract: every rank before this one has links where it has passed and rank N has not. Assumes nothing.
use Rattle.rules.proofs.Lists.{PassedSoFar}
use Rattle.fitness.specs.Parts.{passed_at}
use Rattle.fitness.proofs.ranks_passed.Given as goal

abbrev pub invariant-loop-rank : goal.invariant-loop-rank
invariant-loop-rank l = PassedSoFar (passed_at l.map.dim l.map.darts l.map.tables.now l.positions) l.map.dim l.rank
