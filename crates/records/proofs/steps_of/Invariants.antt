-- `records::steps_of` meets its contract: the sum so far and the sum of what is left are the whole. Assumes nothing.
use Prim.Native.Nat.{◌≤◌, ◌*◌, ◌+◌}
use mathlib.Core.Path.{◌≡◌}
use lib.ListN.{drop}
use Rattle.rules.specs.Lists.{sum}
use Rattle.records.proofs.steps_of.Given as goal

abbrev pub invariant-loop-i : goal.invariant-loop-i
invariant-loop-i l = (l.steps ≤ 65535 * l.i) × (sum l.positions ≡ l.steps + sum (drop l.i l.positions))
