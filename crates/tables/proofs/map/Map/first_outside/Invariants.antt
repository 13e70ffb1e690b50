-- `Map::first_outside` meets its contract: the search has come to k, and every link before it is a dart. Assumes nothing.
use Rattle.rules.specs.Map.{by_dart}
use Rattle.rules.specs.Map as map
use Rattle.rules.specs.Check.{outside}
use Rattle.rules.proofs.Lists.{Sought}
use Rattle.tables.proofs.map.Map.first_outside.Given as goal

abbrev pub invariant-loop-k : goal.invariant-loop-k
invariant-loop-k l = Sought (outside by_dart l.self.dim l.self.darts l.self.tables.now) (map.size l.self.dim l.self.darts) l.k
