-- `text::Place::word_from` meets its contract: all up to p is of no word, and no comment goes on at p. Assumes nothing.
use native.Mathlib.Omega.{arith}
use Prim.Native.Nat.{◌+◌}
use mathlib.Core.Path.{sym, ◌∙◌}
use Rattle.text.proofs.Laws.{line_end_from, coming_comment, coming_blank, coming_here, coming_end}
use Rattle.text.proofs.place.Place.word_from.Goals as goal

pub loop-p-smaller-then-b-eq35 : goal.loop-p-smaller-then-b-eq35
loop-p-smaller-then-b-eq35 c = omega (arith, line_end_from c.args.self.text.now (c.loop-p.p + 1))

pub loop-p-preserved-then-b-eq35 : goal.loop-p-preserved-then-b-eq35
loop-p-preserved-then-b-eq35 c = coming_comment _ c.loop-p.invariant c.loop-p-test.true _ c.line_end-p.ensures.place c.if-b-eq35.true

pub loop-p-preserved : goal.loop-p-preserved
loop-p-preserved c = coming_blank _ c.loop-p.invariant c.loop-p-test.true c.if-b-eq35.false (sym c.is_blank.ensures ∙ c.if-is_blank.true)

pub returns-else-is_blank-clause-place : goal.returns-else-is_blank-clause-place
returns-else-is_blank-clause-place c =
    coming_here _ c.loop-p.invariant c.loop-p-test.true c.if-b-eq35.false (sym c.is_blank.ensures ∙ c.if-is_blank.false)

pub returns-clause-place : goal.returns-clause-place
returns-clause-place c = coming_end _ c.loop-p.invariant c.loop-p-test.false
