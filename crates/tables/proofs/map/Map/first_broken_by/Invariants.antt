-- `Map::first_broken_by` meets its contract: the search has come to d, and going around returns to every dart before it. Assumes nothing.
use Rattle.rules.specs.Map.{by_dart, broken}
use Rattle.rules.proofs.Lists.{Sought}
use Rattle.tables.proofs.map.Map.first_broken_by.Given as goal

abbrev pub invariant-loop-d : goal.invariant-loop-d
invariant-loop-d l = Sought (broken by_dart l.self.dim l.self.darts l.self.tables.now l.pair) l.self.darts l.d
