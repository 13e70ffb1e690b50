-- `report::span_rest` meets its contract: each turn marks one body more, until every dart has a mark. Assumes nothing.
use Prim.Native.Nat.{◌-◌}
use Rattle.tables.specs.Maps.{of}
use Rattle.report.specs.Spans.{Spanned, stands, Stays}
use Rattle.report.proofs.span_rest.Given as goal

abbrev pub invariant-loop-queue : goal.invariant-loop-queue
invariant-loop-queue l = Stays l.valid.map.darts l.initial.queue l.queue × stands (of Spanned l.valid.map) l.queue l.s

abbrev pub decreases-loop-queue : goal.decreases-loop-queue
decreases-loop-queue l = l.valid.map.darts - l.s.next
