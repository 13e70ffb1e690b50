-- `fitness::begins` meets its contract: up to one bit by its value, more by their first two. Assumes nothing.
use Rattle.fitness.proofs.Laws.{begins_none, begins_one, begins_more}
use Rattle.fitness.proofs.begins.Goals as goal

pub returns-then-bits-eq0 : goal.returns-then-bits-eq0
returns-then-bits-eq0 c = begins_none _ _ c.if-bits-eq0.true

pub returns-then-bits-eq1 : goal.returns-then-bits-eq1
returns-then-bits-eq1 c = begins_one _ _ c.if-bits-eq1.true

pub returns : goal.returns
returns c = begins_more _ _ c.if-bits-gt-WAITING.false c.if-bits-eq0.false c.if-bits-eq1.false
