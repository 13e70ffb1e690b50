-- `Map::sound_dart` meets its contract: the dart's link of every rank before j passes, so it is a dart. Assumes nothing.
use Prim.Native.Nat.{suc}
use Rattle.rules.proofs.Lists.{PassedSoFar}
use Rattle.tables.specs.Sound.{sound_link}
use Rattle.tables.proofs.map.Map.sound_dart.Given as goal

abbrev pub invariant-loop-j : goal.invariant-loop-j
invariant-loop-j l = PassedSoFar (sound_link l.self.dim l.self.darts l.self.tables.now l.dart) (suc l.self.dim) l.j
