-- `text::line_end` meets its contract: no LF up to p. Assumes nothing.
use native.Mathlib.Omega.{arith}
use mathlib.Core.Path.{◌≡◌, ◌∙◌}
use borrow.Author.Tests.{eq-eqb, ne_eqb}
use Rattle.shapes.specs.Text.{line_end}
use Rattle.text.proofs.Laws.{fresh_feed, gone_next, gone_here, gone_end}
use Rattle.text.proofs.line_end.Goals as goal

pub invariant_of-result : goal.invariant_of-result
invariant_of-result c = record { fresh = fresh_feed _ _ c.if-text-p-eq10.true }

pub returns-then-text-p-eq10-clause-place : goal.returns-then-text-p-eq10-clause-place
unfolding line_end
returns-then-text-p-eq10-clause-place c = gone_here c.loop-p.invariant.0 (omega arith) (eq-eqb _ 10 c.if-text-p-eq10.true)

pub loop-p-preserved : goal.loop-p-preserved
loop-p-preserved c = (gone_next c.loop-p.invariant.0 (omega arith) (ne_eqb _ 10 c.if-text-p-eq10.false), omega arith)

pub returns-clause-place : goal.returns-clause-place
unfolding line_end
returns-clause-place c = let z : c.max-end.result ≡ c.loop-p.p = omega arith in z ∙ gone_end c.loop-p.invariant.0 (omega arith)
