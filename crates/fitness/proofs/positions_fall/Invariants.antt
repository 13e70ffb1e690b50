-- `fitness::positions_fall` meets its contract: every position before i is not above the one before it, and `above` is the one before i. Assumes nothing.
use Prim.Native.Nat.{suc}
use mathlib.Core.Path.{◌≡◌}
use mathlib.Core.List.{◌∷◌}
use lib.ListN.{get_or}
use Rattle.rules.proofs.Lists.{PassedSoFar}
use Rattle.fitness.specs.Parts.{falls_at}
use Rattle.fitness.proofs.positions_fall.Given as goal

abbrev pub invariant-loop-i : goal.invariant-loop-i
invariant-loop-i l = PassedSoFar (falls_at l.count l.positions) (suc l.dim) l.i × (l.above ≡ get_or (l.count ∷ l.positions) l.i 0)
