-- `text::keyword` meets its contract. Assumes nothing.
-- What several answers name by the same `let` is what one call answered: as a lemma it would be no shorter.
use native.Mathlib.Omega.{arith}
use mathlib.Core.Path.{sym, ap}
use borrow.Author.Tests.{eq-eqb, ne_eqb}
use Rattle.shapes.specs.Text.{provided}
use Rattle.text.specs.Leaves.{told_of, end}
use Rattle.text.proofs.Laws.{fresh_0}
use Rattle.text.proofs.Readings.{word_end_from, word_end_within, keyword_none, keyword_some}
use Rattle.text.proofs.keyword.Goals as goal
use Rattle.text.proofs.keyword.Goals.{else-e-w-eq3-via-then-e-w-eq3+then-text-w-eq79+then-text-w-eq70+else-text-w-eq70-2}
use Rattle.text.proofs.keyword.Goals.{else-e-w-eq3-via-then-e-w-eq3+then-text-w-eq79+else-text-w-eq70}
use Rattle.text.proofs.keyword.Goals.{else-e-w-eq3-via-then-e-w-eq3+else-text-w-eq79, else-e-w-eq3-via-else-e-w-eq3}

pub invariant_of-start : goal.invariant_of-start
invariant_of-start c = record { fresh = fresh_0 _ }

pub returns-then-text-w-clause-place : goal.returns-then-text-w-clause-place
unfolding told_of
returns-then-text-w-clause-place c = sym (ap (told_of end) (keyword_none _ _ _ c.word_from-w.ensures.place c.if-text-w.true))

pub overflow_sub-e : goal.overflow_sub-e
overflow_sub-e c =
    let e = c.word_end-e.ensures.place in
    omega (arith, word_end_from c.word_from-w.result.text.now c.word_from-w.result.at)

pub bounds-text-w-then-text-w-eq79 : goal.bounds-text-w-then-text-w-eq79
bounds-text-w-then-text-w-eq79 c =
    let e = rw c.word_from-w.ensures.text at c.word_end-e.ensures.place in
    omega (arith, word_end_within c.args.text.now c.word_from-w.result.at (omega arith))

pub bounds-text-w-then-text-w-eq70 : goal.bounds-text-w-then-text-w-eq70
bounds-text-w-then-text-w-eq70 c =
    let e = rw c.word_from-w.ensures.text at c.word_end-e.ensures.place in
    omega (arith, word_end_within c.args.text.now c.word_from-w.result.at (omega arith))

pub returns-then-text-w-eq70-2-clause-place : goal.returns-then-text-w-eq70-2-clause-place
unfolding told_of provided
returns-then-text-w-eq70-2-clause-place c =
    let e = rw c.word_from-w.ensures.text at c.word_end-e.ensures.place in
    rw (
      keyword_some _ _ _ _ c.word_from-w.ensures.place c.if-text-w.false e,
      eq-eqb _ 3 c.if-e-w-eq3.true,
      eq-eqb _ 79 c.if-text-w-eq79.true,
      eq-eqb _ 70 c.if-text-w-eq70.true,
      eq-eqb _ 70 c.if-text-w-eq70-2.true,
    )

pub returns-clause-place : goal.returns-clause-place
unfolding told_of provided
returns-clause-place c =
    let e = rw c.word_from-w.ensures.text at c.word_end-e.ensures.place in
    let k = keyword_some _ _ _ _ c.word_from-w.ensures.place c.if-text-w.false e in
    elim c.else-e-w-eq3.branch [
      | else-e-w-eq3-via-then-e-w-eq3+then-text-w-eq79+then-text-w-eq70+else-text-w-eq70-2 w ↦
          rw (k, eq-eqb _ 3 w.if-e-w-eq3.true, eq-eqb _ 79 w.if-text-w-eq79.true, eq-eqb _ 70 w.if-text-w-eq70.true, ne_eqb _ 70 w.if-text-w-eq70-2.false)
      | else-e-w-eq3-via-then-e-w-eq3+then-text-w-eq79+else-text-w-eq70 w ↦
          rw (k, eq-eqb _ 3 w.if-e-w-eq3.true, eq-eqb _ 79 w.if-text-w-eq79.true, ne_eqb _ 70 w.if-text-w-eq70.false)
      | else-e-w-eq3-via-then-e-w-eq3+else-text-w-eq79 w ↦ rw (k, eq-eqb _ 3 w.if-e-w-eq3.true, ne_eqb _ 79 w.if-text-w-eq79.false)
      | else-e-w-eq3-via-else-e-w-eq3 w ↦ rw (k, ne_eqb _ 3 w.if-e-w-eq3.false)
    ]
