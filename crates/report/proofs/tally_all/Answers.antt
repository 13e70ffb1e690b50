-- `report::tally_all` meets its contract: after each turn the links of the ranks below are counted. Assumes nothing.
use Rattle.report.proofs.Tallies.{counted_none}
use Rattle.report.proofs.tally_all.Goals as goal

pub loop-rank-init : goal.loop-rank-init
loop-rank-init c = counted_none _ _ _ _
