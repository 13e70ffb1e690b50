-- `survey::judged` meets its contract. Assumes nothing.
use mathlib.Core.Path.{sym, ◌∙◌}
use Rattle.survey.specs.Flaws.{judged_of, first_of}
use Rattle.survey.proofs.judged.Goals as goal

pub returns-then-is_some : goal.returns-then-is_some
unfolding judged_of
returns-then-is_some c = rw (sym c.is_some.ensures ∙ c.if-is_some.true)

pub returns-in-Some : goal.returns-in-Some
unfolding judged_of first_of
returns-in-Some c = rw (sym c.is_some.ensures ∙ c.if-is_some.false, c.in-Some.is)

pub returns-in-None : goal.returns-in-None
unfolding judged_of first_of
returns-in-None c = rw (sym c.is_some.ensures ∙ c.if-is_some.false, c.in-None.is)
