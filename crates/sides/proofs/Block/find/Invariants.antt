-- `sides::find` meets its contract: a search that has come to a place ends where the whole search does. Assumes nothing.
use Prim.Native.Nat.{◌-◌}
use Rattle.sides.specs.Sides.{owner_of}
use Rattle.sides.proofs.Paths.{Seeking}
use Rattle.sides.proofs.Block.find.Given as goal

abbrev pub invariant-loop-at : goal.invariant-loop-at
invariant-loop-at l = Seeking l.self.tree l.self.keys l.key l.rest l.at

abbrev pub decreases-loop-at : goal.decreases-loop-at
decreases-loop-at l = 2048 - owner_of l.at
