-- `Map::twisted_at` meets its contract: the search has come to d, and the link of every dart before it leads back. Assumes nothing.
use Prim.Native.Nat.{◌+◌, ◌*◌}
use Rattle.rules.specs.Map.{by_dart}
use Rattle.rules.specs.Check.{twisted}
use Rattle.rules.proofs.Lists.{Sought}
use Rattle.tables.proofs.map.Map.twisted_at.Given as goal

abbrev pub invariant-loop-d : goal.invariant-loop-d
invariant-loop-d l = Sought (λ x. twisted by_dart l.self.dim l.self.darts l.self.tables.now (l.rank * l.self.darts + x)) l.self.darts l.d
