-- `flood::Queue::flood_on` meets its contract: from the start's place up to the head each dart of the queue is spread from.
-- A head below the queue's end is below n. Assumes nothing.
use Prim.Native.Nat.{ℕ, ◌-◌}
use Rattle.flood.specs.Flood.{kept, runs}
use Rattle.flood.specs.Queues.{Same, Flows}
use Rattle.flood.proofs.Queue.flood_on.Given as goal

abbrev pub invariant-loop-head : goal.invariant-loop-head
invariant-loop-head l =
    let keep = kept (runs l.low l.high) in
    Same l.initial.self l.self × ((start class : ℕ)
    → Flows keep l.map start class l.from l.from l.initial.self l.initial.self
    → Flows keep l.map start class l.from l.head l.initial.self l.self)

abbrev pub decreases-loop-head : goal.decreases-loop-head
decreases-loop-head l = l.map.darts - l.head
