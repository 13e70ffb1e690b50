-- `flood::Queue::spread_part` meets its contract: after each turn the links of the ranks from the first one up to i are followed. Assumes nothing.
use Prim.Native.Nat.{◌-◌, ◌≤◌}
use Rattle.tables.specs.Maps.{of}
use Rattle.flood.specs.Flood.{between, SpreadFrom}
use Rattle.flood.specs.Queues.{Same, grown}
use Rattle.flood.proofs.Queue.spread_part.Given as goal

abbrev pub invariant-loop-i : goal.invariant-loop-i
invariant-loop-i l = (l.i - l.from ≤ l.to - l.from) × Same l.initial.self l.self
    × grown (of (SpreadFrom (between l.from l.i)) l.map l.dart) l.initial.self l.self
