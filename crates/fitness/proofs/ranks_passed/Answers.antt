-- `fitness::ranks_passed` meets its contract: every rank before this one has links where it has passed and rank N has not. Assumes nothing.
use mathlib.Core.Path.{sym, ◌∙◌}
use native.Mathlib.Omega.{arith}
use Rattle.rules.proofs.Lists.{passed_next, passed_end, fails_at}
use Rattle.fitness.specs.Parts.{passed_at}
use Rattle.fitness.proofs.ranks_passed.Goals as goal

pub returns-then-not-rank_passed : goal.returns-then-not-rank_passed
unfolding passed_at
returns-then-not-rank_passed c = fails_at _ _ c.loop-rank.rank (omega arith) (sym c.rank_passed.ensures ∙ c.if-not-rank_passed.true)

pub loop-rank-preserved : goal.loop-rank-preserved
unfolding passed_at
loop-rank-preserved c = passed_next c.loop-rank.invariant (omega arith) (sym c.rank_passed.ensures ∙ c.if-not-rank_passed.false)

pub returns : goal.returns
returns c = passed_end c.loop-rank.invariant (omega arith)
