-- `Map::commutes` meets its contract: every rank before i goes with rank j. Assumes nothing.
use Prim.Native.Nat.{◌-◌}
use Rattle.rules.proofs.Lists.{PassedSoFar}
use Rattle.tables.specs.Sound.{commutes_at}
use Rattle.tables.proofs.map.Map.commutes.Given as goal

abbrev pub invariant-loop-i : goal.invariant-loop-i
invariant-loop-i l = PassedSoFar (commutes_at l.self.dim l.self.darts l.self.tables.now l.j l.dart) (l.j - 1) l.i
