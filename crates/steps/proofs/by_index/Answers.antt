-- `steps::by_index` meets its contract: the step by a w that may be named, and 21, 22 and 23 by their cause. Assumes nothing.
use native.Mathlib.Omega.{arith}
use Rattle.steps.proofs.Steps.{name_below, symbol_index, symbol_cause}
use Rattle.steps.proofs.by_index.Goals as goal

pub returns-in_err-naming : goal.returns-in_err-naming
returns-in_err-naming c = symbol_cause c.requires _ _ c.naming.ensures _ c.in_err-naming.was _ c.from_residual.ensures.1

pub tied-requires : goal.tied-requires
tied-requires c =
    let v = c.requires in
    let l = name_below v _ _ c.naming.ensures c.in_ok-naming.was in
    (v.limits, v.ranked, omega arith, omega arith)

pub returns : goal.returns
returns c = symbol_index c.requires _ _ c.naming.ensures c.in_ok-naming.was _ _ c.tied.ensures
