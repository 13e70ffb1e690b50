-- `fitness::positions_past` meets its contract: every position past N and before i is 0. Assumes nothing.
use Prim.Native.Nat.{◌<◌}
use Rattle.rules.proofs.Lists.{PassedSoFar}
use Rattle.fitness.specs.Parts.{over_at}
use Rattle.fitness.proofs.positions_past.Given as goal

abbrev pub invariant-loop-i : goal.invariant-loop-i
invariant-loop-i l = PassedSoFar (over_at l.dim l.positions) 7 l.i × (l.dim < l.i)
