-- `fitness::positions_fall` meets its contract: every position before i is not above the one before it, and `above` is the one before i. Assumes nothing.
use native.Mathlib.Omega.{arith}
use Rattle.rules.proofs.Lists.{passed_next, passed_end, fails_at}
use Rattle.fitness.proofs.Laws.{falls_no, falls_yes, next_above}
use Rattle.fitness.proofs.positions_fall.Goals as goal

pub returns-then-above-positions : goal.returns-then-above-positions
returns-then-above-positions c =
    let a = c.args in
    fails_at _ _ c.loop-i.i (omega arith) (falls_no a.count c.loop-i.above a.positions c.loop-i.i c.loop-i.invariant.1 c.if-above-positions.true)

pub loop-i-preserved : goal.loop-i-preserved
loop-i-preserved c =
    let a = c.args in (
      passed_next c.loop-i.invariant.0 (omega arith)
          (falls_yes a.count c.loop-i.above a.positions c.loop-i.i c.loop-i.invariant.1 c.if-above-positions.false),
      next_above a.count a.positions c.loop-i.i,
    )

-- the last position passes as well
pub returns-else-above-positions : goal.returns-else-above-positions
returns-else-above-positions c =
    let a = c.args in
    passed_end (passed_next c.loop-i.invariant.0 (omega arith)
    (falls_yes a.count c.loop-i.above a.positions c.loop-i.i c.loop-i.invariant.1 c.if-above-positions.false)) (omega arith)
