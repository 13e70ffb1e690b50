-- `records::steps_of` meets its contract: the sum so far and the sum of what is left are the whole. Assumes nothing.
use native.Mathlib.Omega.{arith}
use Rattle.records.proofs.Fills.{sum_on, sum_over}
use Rattle.records.proofs.steps_of.Goals as goal

pub loop-i-preserved : goal.loop-i-preserved
loop-i-preserved c =
    let (few, whole) = c.loop-i.invariant in
    let e = c.from-steps.ensures in
    let x = sum_on c.args.positions c.loop-i.i (omega (arith, c.well_formed.0.1.0.1)) in
    (omega arith, omega arith)

pub returns : goal.returns
returns c =
    let (few, whole) = c.loop-i.invariant in
    let x = sum_over c.args.positions c.loop-i.i (omega (arith, c.well_formed.0.1.0.1)) in
    omega arith
