-- `survey::worse` meets its contract. Assumes nothing.
use mathlib.Core.Path.{◌∙◌}
use borrow.Author.Tests.{le-leb, lt-leb}
use Rattle.survey.specs.Flaws.{worse_of}
use Rattle.survey.proofs.worse.Goals as goal

pub returns-then-vertices-far : goal.returns-then-vertices-far
unfolding worse_of
returns-then-vertices-far c = rw (le-leb _ _ c.if-vertices-far.true)

pub returns : goal.returns
unfolding worse_of
returns c = rw (lt-leb _ _ c.if-vertices-far.false) (c.or.ensures ∙ rw c.then_some.ensures)
