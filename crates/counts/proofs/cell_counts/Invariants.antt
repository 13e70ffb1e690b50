-- `counts::cell_counts` meets its contract: after i turns the counts of the ranks below i are there, and the others are 0;
-- that of rank N comes last. Assumes nothing.
use Prim.Native.Nat.{◌*◌}
use mathlib.Core.Path.{◌≡◌}
use lib.ListN.{drop}
use Rattle.tables.specs.Maps.{of}
use Rattle.counts.proofs.Counts.{Tallied}
use Rattle.counts.proofs.cell_counts.Given as goal

abbrev pub invariant-loop-i : goal.invariant-loop-i
invariant-loop-i l = of Tallied l.valid.map l.i l.counts
    × (drop (2 * l.valid.map.darts) l.work ≡ drop (2 * l.valid.map.darts) l.initial.work)
