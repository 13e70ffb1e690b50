-- `text::Place::passed` meets its contract. Assumes nothing.
use mathlib.Core.Path.{◌∙◌}
use Rattle.text.proofs.Readings.{word_none, word_some, reads_bad, reads_next, reads_end}
use Rattle.text.proofs.place.Place.passed.Goals as goal

pub returns-then-self-w-clause-place : goal.returns-then-self-w-clause-place
returns-then-self-w-clause-place c =
    let (same, reads) = c.loop.invariant in
    reads_bad _ reads c.loop-test.true _ (word_none _ _ _ (rw same at c.word_from-w.ensures.place) c.if-self-w.true)

pub loop-preserved : goal.loop-preserved
loop-preserved c =
    let (same, reads) = c.loop.invariant in
    let w = c.word_from-w.ensures.text ∙ same in
    let s = word_some _ _ _ _ (rw same at c.word_from-w.ensures.place) c.if-self-w.false (rw w at c.word_end-p.ensures.place) in
    (c.word_end-p.ensures.text ∙ w, reads_next _ reads c.loop-test.true _ _ s)

pub returns-clause-place : goal.returns-clause-place
returns-clause-place c = reads_end _ c.loop.invariant.1 c.loop-test.false
