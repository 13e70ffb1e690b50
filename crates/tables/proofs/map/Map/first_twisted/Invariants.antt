-- `Map::first_twisted` meets its contract: every link of the ranks before leads back. Assumes nothing.
use Prim.Native.Nat.{◌+◌, ◌*◌, ◌≤◌}
use Rattle.rules.specs.Map.{by_dart}
use Rattle.rules.specs.Map as map
use Rattle.rules.specs.Check.{twisted}
use Rattle.rules.proofs.Lists.{Sought}
use Rattle.tables.proofs.map.Map.first_twisted.Given as goal

abbrev pub invariant-loop-rank : goal.invariant-loop-rank
invariant-loop-rank l = (l.rank ≤ l.self.dim + 1) × Sought (twisted by_dart l.self.dim l.self.darts l.self.tables.now) (map.size l.self.dim l.self.darts) (l.rank * l.self.darts)
