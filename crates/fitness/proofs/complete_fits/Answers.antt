-- `fitness::complete_fits` meets its contract: the walk fits, so its dimension does, and all is done. Assumes nothing.
use mathlib.Core.Path.{sym}
use Rattle.fitness.proofs.Laws.{limits_of}
use Rattle.fitness.proofs.complete_fits.Goals as goal

pub all_done-requires : goal.all_done-requires
all_done-requires c = (limits_of _ _ (sym c.if-walk_fits.ensures)).dims.1
