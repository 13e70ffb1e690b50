-- `Map::all_sound` meets its contract: every dart before d passes. Assumes nothing.
use Rattle.rules.proofs.Lists.{PassedSoFar}
use Rattle.tables.specs.Sound.{sound_dart}
use Rattle.tables.proofs.map.Map.all_sound.Given as goal

abbrev pub invariant-loop-d : goal.invariant-loop-d
invariant-loop-d l = PassedSoFar (sound_dart l.self.dim l.self.darts l.self.tables.now) l.self.darts l.d
