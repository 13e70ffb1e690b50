-- `fitness::positions_past` meets its contract: every position past N and before i is 0. Assumes nothing.
use native.Mathlib.Omega.{arith}
use Rattle.rules.proofs.Lists.{passed_next, passed_end, fails_at}
use Rattle.fitness.proofs.Laws.{past_start, past_no, past_yes}
use Rattle.fitness.proofs.positions_past.Goals as goal

pub loop-i-init : goal.loop-i-init
loop-i-init c = (past_start c.args.dim c.args.positions c.requires, omega arith)

pub returns-then-positions-i-ne0 : goal.returns-then-positions-i-ne0
returns-then-positions-i-ne0 c =
    let a = c.args in
    fails_at _ _ c.loop-i.i (omega arith) (past_no a.dim a.positions c.loop-i.i c.loop-i.invariant.1 c.if-positions-i-ne0.true)

pub loop-i-preserved : goal.loop-i-preserved
loop-i-preserved c =
    let a = c.args in
    (passed_next c.loop-i.invariant.0 (omega arith) (past_yes a.dim a.positions c.loop-i.i c.if-positions-i-ne0.false), omega arith)

pub returns : goal.returns
returns c = passed_end c.loop-i.invariant.0 (omega arith)
