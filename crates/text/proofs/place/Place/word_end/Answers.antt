-- `text::Place::word_end` meets its contract: all up to p is of the word. Assumes nothing.
use native.Mathlib.Omega.{arith}
use mathlib.Core.Path.{◌≡◌, sym, ◌∙◌}
use Rattle.text.proofs.Laws.{ending_next, ending_here, ending_end}
use Rattle.text.proofs.place.Place.word_end.Goals as goal

pub returns-then-stops-clause-place : goal.returns-then-stops-clause-place
returns-then-stops-clause-place c = ending_here _ c.loop-p.invariant.0 (omega arith) (sym c.stops.ensures ∙ c.if-stops.true)

pub loop-p-preserved : goal.loop-p-preserved
loop-p-preserved c = (ending_next _ c.loop-p.invariant.0 (omega arith) (sym c.stops.ensures ∙ c.if-stops.false), omega arith)

pub returns-clause-place : goal.returns-clause-place
returns-clause-place c = let z : c.max-end.result ≡ c.loop-p.p = omega arith in z ∙ ending_end _ c.loop-p.invariant.0 c.loop-p-test.false
