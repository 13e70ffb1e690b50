-- `runs::past` meets its contract: where a body is due a dart is left, so that count and bodies stay within theirs. Assumes nothing.
use mathlib.Core.Path.{sym, ◌∙◌}
use native.Mathlib.Omega.{arith}
use Rattle.rules.proofs.Bodies.{past_says}
use Rattle.runs.specs.Runs.{past_of}
use Rattle.runs.proofs.past.Goals as goal

pub overflow_add-at : goal.overflow_add-at
overflow_add-at c = let l = (past_says _ _ _ _ _ (sym c.body_due.ensures ∙ c.if-body_due.true)).1 in omega arith

pub overflow_add-at-then-body_due : goal.overflow_add-at-then-body_due
overflow_add-at-then-body_due c = let l = (past_says _ _ _ _ _ (sym c.body_due.ensures ∙ c.if-body_due.true)).1 in omega arith

pub returns-then-body_due : goal.returns-then-body_due
unfolding past_of
returns-then-body_due c = rw (sym c.body_due.ensures ∙ c.if-body_due.true) c.search_at.ensures

pub returns : goal.returns
unfolding past_of
returns c = rw (sym c.body_due.ensures ∙ c.if-body_due.false) c.search_at-2.ensures
