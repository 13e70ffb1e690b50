-- `rules::body_due` meets its contract: the first of its three tests that fails decides. Assumes nothing.
use mathlib.Core.Path.{ap, sym}
use borrow.Author.Tests.{lt-ltb, le-ltb}
use Rattle.rules.specs.Bodies.{several}
use Rattle.rules.specs.Inner.{body_due}
use Rattle.rules.proofs.body_due.Goals as goal

pub returns-then-rank-dim : goal.returns-then-rank-dim
unfolding body_due
returns-then-rank-dim c = rw (le-ltb _ _ c.if-rank-dim.true)

pub returns-then-darts-count : goal.returns-then-darts-count
unfolding body_due
returns-then-darts-count c = rw (lt-ltb _ _ c.if-rank-dim.false, le-ltb _ _ c.if-darts-count.true)

pub returns-in-One : goal.returns-in-One
unfolding body_due several
returns-in-One c = rw (lt-ltb _ _ c.if-rank-dim.false, lt-ltb _ _ c.if-darts-count.false) (sym (ap several c.in-One.is))

pub returns-in-Several : goal.returns-in-Several
unfolding body_due several
returns-in-Several c = rw (lt-ltb _ _ c.if-rank-dim.false, lt-ltb _ _ c.if-darts-count.false) (sym (ap several c.in-Several.is))
