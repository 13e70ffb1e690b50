-- `report::misjoined` meets its contract: who has no mark, or the queue's length, tells by the form. Assumes nothing.
use mathlib.Core.Path.{sym, ◌∙◌}
use native.Mathlib.Omega.{arith}
use Rattle.rules.specs.Refusals.{number_of}
use Rattle.rules.proofs.Lists.{found_is, found_not}
use Rattle.report.proofs.Bodies.{least_past, one_more_lem, one_all, several_more, several_all}
use Rattle.report.proofs.misjoined.Goals as goal

pub overflow_cast-result : goal.overflow_cast-result
overflow_cast-result c =
    let (e, h) = found_is _ _ _ (sym c.first_unmarked.ensures ∙ c.in-Some.is) in
    omega (arith, e, h, c.requires.0)

pub returns-in-Some : goal.returns-in-Some
unfolding number_of
returns-in-Some c =
    let (e, h) = found_is _ _ _ (sym c.first_unmarked.ensures ∙ c.in-Some.is) in
    one_more_lem c.in-One.is e h

pub returns-in_default : goal.returns-in_default
returns-in_default c = one_all c.in-One.is (found_not _ _ (sym c.first_unmarked.ensures ∙ c.in_default.is))

-- the queue's length tells that every dart has a mark
pub returns-else-queue : goal.returns-else-queue
returns-else-queue c = one_all c.in-One.is (least_past c.args.queue.now.queue c.if-queue.false)

pub returns-then-queue-2 : goal.returns-then-queue-2
unfolding number_of
returns-then-queue-2 c = simp (c.of.ensures, sym (several_all c.args.queue.now.queue c.in-Several.is c.if-queue-2.true))

pub returns-else-queue-2 : goal.returns-else-queue-2
returns-else-queue-2 c = several_more c.args.queue.now.queue c.in-Several.is c.if-queue-2.false
