-- `Map::first_broken_by` meets its contract: the search has come to d, and going around returns to every dart before it. Assumes nothing.
use native.Mathlib.Omega.{arith}
use Rattle.rules.proofs.Lists.{sought_start, sought_next, sought_found, sought_past}
use Rattle.tables.proofs.Laws.{broken_yes, broken_no}
use Rattle.tables.proofs.map.Map.first_broken_by.Goals as goal

pub loop-d-init : goal.loop-d-init
loop-d-init c = sought_start _ _

pub overflow_cast-d : goal.overflow_cast-d
overflow_cast-d c = omega arith

pub overflow_cast-d-in-loop-d : goal.overflow_cast-d-in-loop-d
overflow_cast-d-in-loop-d c = omega arith

pub returns-then-around-d : goal.returns-then-around-d
returns-then-around-d c = sought_found c.loop-d.invariant (omega arith) (broken_yes _ _ _ _ _ _ c.around.ensures c.if-around-d.true)

pub loop-d-preserved : goal.loop-d-preserved
loop-d-preserved c = sought_next c.loop-d.invariant (omega arith) (broken_no _ _ _ _ _ _ c.around.ensures c.if-around-d.false)

pub returns : goal.returns
returns c = sought_past c.loop-d.invariant (omega arith)
