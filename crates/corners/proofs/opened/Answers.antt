-- `corners::opened` meets its contract. Assumes nothing.
use borrow.Author.Tests.{ne_eqb}
use Rattle.corners.specs.Steps.{spot, opened_of, opened_by}
use Rattle.corners.proofs.Steps.{opened_new}
use Rattle.corners.proofs.opened.Goals as goal

pub returns-then-c-ne0-clause-spot : goal.returns-then-c-ne0-clause-spot
unfolding opened_of opened_by
returns-then-c-ne0-clause-spot c = rw (ne_eqb _ 0 c.if-c-ne0.true)

pub returns-clause-spot : goal.returns-clause-spot
returns-clause-spot c =
    let k = c.taken-k.ensures in
    opened_new _ (spot c.args.c) _ _ c.if-c-ne0.false k.number (rw k.text at c.taken-v.ensures.number)
