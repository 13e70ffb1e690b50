-- `checker::first_unnumbered` meets its contract: the search has come to d, and every dart before it has a number. Assumes nothing.
use native.Mathlib.Omega.{arith}
use Rattle.rules.proofs.Lists.{sought_from, sought_next, sought_found, sought_past}
use Rattle.checker.proofs.Verdicts.{numberless_yes, numberless_no}
use Rattle.checker.proofs.first_unnumbered.Goals as goal

pub loop-d-init : goal.loop-d-init
loop-d-init c = sought_from _ _ _ c.requires.1 c.requires.2

pub returns-then-work-d : goal.returns-then-work-d
returns-then-work-d c =
    sought_found c.loop-d.invariant (omega arith) (numberless_yes c.args.work.now c.loop-d.d (omega arith) c.if-work-d.true)

pub loop-d-preserved : goal.loop-d-preserved
loop-d-preserved c =
    sought_next c.loop-d.invariant (omega arith) (numberless_no c.args.work.now c.loop-d.d (omega arith) c.if-work-d.false)

pub returns : goal.returns
returns c = sought_past c.loop-d.invariant (omega arith)
