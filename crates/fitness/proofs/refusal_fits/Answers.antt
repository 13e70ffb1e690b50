-- `fitness::refusal_fits` meets its contract: 1 and 3 by their place, another number by the set that wipes the tables. Assumes nothing.
use native.Mathlib.Omega.{arith}
use Rattle.fitness.proofs.Laws.{refusal_first, refusal_third, refusal_other}
use Rattle.fitness.proofs.refusal_fits.Goals as goal

pub returns-in-1 : goal.returns-in-1
returns-in-1 c = let a = c.args in refusal_first a.number a.place (omega arith)

pub returns-in-3 : goal.returns-in-3
returns-in-3 c = let a = c.args in refusal_third a.number a.place (omega arith)

pub returns-in_default : goal.returns-in_default
returns-in_default c =
    let a = c.args in
    refusal_other a.number a.place (λ e. omega arith) (λ e. omega arith) c.wipes.result c.wipes.ensures
