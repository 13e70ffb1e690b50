-- `counts::cells` meets its contract: each dart below d is marked, and the darts from which floods were started are those that lead
-- their cells. Assumes nothing.
use Prim.Native.Nat.{◌*◌}
use mathlib.Core.Path.{◌≡◌}
use lib.ListN.{drop}
use Rattle.tables.specs.Maps.{of}
use Rattle.flood.specs.Queues.{Same}
use Rattle.counts.proofs.Counts.{Swept}
use Rattle.counts.proofs.cells.Given as goal

abbrev pub invariant-loop-d : goal.invariant-loop-d
invariant-loop-d l = of Swept l.valid.map l.skip l.d l.queue.tail l.found l.queue.work.now × Same l.initial.queue l.queue
    × (drop (2 * l.valid.map.darts) l.queue.work.now ≡ drop (2 * l.valid.map.darts) l.initial.queue.work.now)
