-- `steps::by_deduction` meets its contract: the partner is tied, or taken already. Assumes nothing.
use native.Mathlib.Omega.{arith}
use Rattle.steps.proofs.Steps.{deduced_small, deduced_tied, deduced_14}
use Rattle.steps.proofs.by_deduction.Goals as goal

pub tied-requires : goal.tied-requires
tied-requires c =
    let v = c.requires in
    (v.limits, v.ranked, omega arith, deduced_small v)

pub returns-then-known_link : goal.returns-then-known_link
returns-then-known_link c = deduced_tied c.requires _ c.known_link.ensures c.if-known_link.true _ _ c.tied.ensures

pub returns-else-known_link : goal.returns-else-known_link
returns-else-known_link c = deduced_14 c.requires _ c.known_link.ensures c.if-known_link.false
