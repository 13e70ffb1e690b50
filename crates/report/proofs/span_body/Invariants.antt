-- `report::span_body` meets its contract: after each turn the darts of the queue below the head have been crossed by aN; at the end that is
-- the whole queue. Assumes nothing.
use Prim.Native.Nat.{◌-◌}
use mathlib.Core.Path.{◌≡◌}
use Rattle.tables.specs.Maps.{of}
use Rattle.report.specs.Spans.{Spun, stands, Stays}
use Rattle.report.proofs.span_body.Given as goal

abbrev pub invariant-loop-head : goal.invariant-loop-head
invariant-loop-head l = Stays l.valid.map.darts l.initial.queue l.queue × (l.s.next ≡ l.initial.s.next) × stands (of Spun l.valid.map l.head) l.queue l.s

abbrev pub decreases-loop-head : goal.decreases-loop-head
decreases-loop-head l = l.valid.map.darts - l.head
