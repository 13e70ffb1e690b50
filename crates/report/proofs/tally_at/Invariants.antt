-- `report::tally_at` meets its contract: after d turns the links of the first d darts are counted with those of the ranks below. Assumes nothing.
use Prim.Native.Nat.{◌+◌, ◌*◌}
use Rattle.tables.specs.Maps.{of}
use Rattle.report.specs.Tests.{Counted}
use Rattle.report.proofs.tally_at.Given as goal

abbrev pub invariant-loop-d : goal.invariant-loop-d
invariant-loop-d l = of Counted l.valid.map l.work (l.rank * l.valid.map.darts + l.d) (record { alike = l.alike; free = l.free })
