-- `report::tally_all` meets its contract: after each turn the links of the ranks below are counted. Assumes nothing.
use Prim.Native.Nat.{◌*◌}
use Rattle.tables.specs.Maps.{of}
use Rattle.report.specs.Tests.{Counted}
use Rattle.report.proofs.tally_all.Given as goal

abbrev pub invariant-loop-rank : goal.invariant-loop-rank
invariant-loop-rank l = of Counted l.valid.map l.work (l.rank * l.valid.map.darts) l.t
