-- `records::bodies_found` meets its contract: each form's test is its own. Assumes nothing.
use Rattle.rules.specs.Bodies.{several}
use Rattle.rules.specs.Reading.{bodies_found}
use Rattle.rules.specs.Session.{walk_at}
use Rattle.records.proofs.bodies_found.Goals as goal

pub returns-in-One : goal.returns-in-One
unfolding bodies_found walk_at several
returns-in-One c = rw c.in-One.is

pub returns-in-Several : goal.returns-in-Several
unfolding bodies_found walk_at several
returns-in-Several c = rw c.in-Several.is
